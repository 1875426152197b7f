-- Raw HTML in a content.
use Rattle.std.specs.Prelude.{ℕ, ◌+◌, List, [], ◌∷◌, length, drop, Option, None, Some, codes, if◌then◌else◌}
use Rattle.std.specs.Option.{option_map}
use Rattle.first_pass_html.specs.Starts.{begins_with, begins_letter}
use Rattle.first_pass_atoms.specs.TagLengths.{open_tag_len, closing_tag_len}

-- the number of bytes up to the end of the first place with a text, if there is one (this project)
unfoldable pub end_len : List ℕ → List ℕ → Option ℕ
end_len text [] = None
end_len text (b ∷ bs) = if begins_with text (b ∷ bs) then Some (length text) else option_map (λ n. 1 + n) (end_len text bs)

-- the place after the first text at a place or after it, if there is one (this project)
abbrev pub text_end : List ℕ → List ℕ → ℕ → Option ℕ
text_end text content place = option_map (λ n. place + n) (end_len text (drop place content))

-- the place after the comment whose `<!--` is at a place, if it ends: `<!-->`, `<!--->`, or up to the first `-->` after
-- the `<!--` (CommonMark 6.6, HTML comment)
unfoldable pub comment_at : List ℕ → ℕ → Option ℕ
comment_at content place =
    let rest = drop (place + 4) content in
    if begins_with (codes ">") rest then Some (place + 5)
    else (if begins_with (codes "->") rest then Some (place + 6) else text_end (codes "-->") content (place + 4))

-- The place after the comment, CDATA section or declaration whose `<!` is at a place, if there is one. A CDATA section
-- goes up to the first `]]>` after its `<![CDATA[`, and a declaration, which has a letter after its `<!`, to the first `>`
-- (CommonMark 6.6).
unfoldable pub declaration_at : List ℕ → ℕ → Option ℕ
declaration_at content place =
    let rest = drop (place + 2) content in
    if begins_with (codes "--") rest then comment_at content place
    else (if begins_with (codes "[CDATA[") rest then text_end (codes "]]>") content (place + 9)
    else (if begins_letter rest then text_end (codes ">") content (place + 3) else None))

-- The place after the raw HTML that begins at a place of a content, if there is one: a processing instruction, which goes
-- up to the first `?>` after its `<?`, a declaration or the like, a closing tag, or an open tag (CommonMark 6.6)
unfoldable pub raw_html_at : List ℕ → ℕ → Option ℕ
raw_html_at content place =
    let rest = drop place content in
    if begins_with (codes "<?") rest then text_end (codes "?>") content (place + 2)
    else (if begins_with (codes "<!") rest then declaration_at content place
    else (if begins_with (codes "</") rest then option_map (λ k. place + (2 + k)) (closing_tag_len (drop 2 rest))
    else (if begins_with (codes "<") rest then option_map (λ k. place + (1 + k)) (open_tag_len (drop 1 rest)) else None)))
