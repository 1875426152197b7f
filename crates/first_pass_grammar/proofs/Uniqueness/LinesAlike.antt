-- Paragraphs and headings have one chain, apart from the indices of the texts that it names.
use Rattle.std.proofs.Common.{◌≡◌, inl, inr, ℕ, List, ◌∷◌, Option, IfSome, refl, sym, ◌∙◌, true≢false, [], arith}
use Rattle.first_pass_grammar.proofs.Common.{HeadingIndex, Item, Place, offset, Inline, MathBraces, Spot, spot, AreLineTokens, add_tokens, Names, at_rest}
use Rattle.first_pass_grammar.proofs.Common.{front, unindented, Document, content_at, heading_content, add_break, IsHeading, TextLines, text_lines}
use Rattle.first_pass_grammar.proofs.Common.{AreTextLines}
use Rattle.first_pass_tokens.proofs.AlikeLemmas.{one_line}
use Rattle.first_pass_grammar.specs.declared.kind.Container.{Container}
use Rattle.first_pass_grammar.proofs.Names.NoIndex.{IsWithoutIndex, HasNoIndex, HasTextIndex, tokens_textual}
use Rattle.first_pass_grammar.proofs.Each.EachToken.{line_each, break_each}
use Rattle.first_pass_grammar.proofs.Uniqueness.Alike.{with_names, AlikeChains, tokens_alike}
use Rattle.first_pass_grammar.proofs.Uniqueness.ChainsAlike.{alike_reads, close_alike, break_alike, heading_chain_alike}

-- two readings of a line have tokens that read alike, the same end and break, and the same brace contexts after them
one_line_read : (d : Document) (n : Names) (s : Inline) (k k' : List Item) (a a' : ℕ × Option Item) (b b' : MathBraces) → AreLineTokens d.names.texts s k a b
    → AreLineTokens n.texts s k' a' b' → AlikeChains d.names n k k' × (a ≡ a') × (b ≡ b')
one_line_read d n s k k' a a' b b' i i' =
    let o = one_line d.names.texts n.texts s k k' a a' b b' i i' in
    (alike_reads d.names n k k' (line_each d.names.texts HasTextIndex (tokens_textual d.names.texts) s k a i) o.0, o.1, o.2)

-- two results of reading lines are the same except for chains that read alike
abbrev pub OneGiven : Names → Names → TextLines → TextLines → Type 0
OneGiven m n t u = (chain : List Item) × AlikeChains m n t.chain chain × (u ≡ text_lines chain t.break t.left)

-- the line at a place has the last tokens of a text, and these lines follow
abbrev EndsText : Document → Spot → List Item → List Place → TextLines → Type 0
EndsText d p chain left t =
    (tokens : List Item) × (answer : ℕ × Option Item) × (after : MathBraces) × AreLineTokens d.names.texts (content_at d p) tokens answer after
    × (t ≡ text_lines (add_tokens chain tokens) answer.1 left)

last_alike : (d : Document) (n : Names) (p : Spot) (chain chain' : List Item) (left : List Place) (t u : TextLines) → AlikeChains d.names n chain chain'
    → EndsText d p chain left t → EndsText (with_names d n) p chain' left u → OneGiven d.names n t u
last_alike d n p chain chain' left t u same (k, a, b, i, e) (k', a', b', i', e') =
    let o = one_line_read d n (content_at d p) k k' a a' b b' i i' in
    rw (e, o.1) (add_tokens chain' k', tokens_alike d.names n chain chain' k k' same o.0, e')

-- the lines of a text have one result, apart from indices
pub one_lines : (d : Document) (n : Names) (path : List Container) (p : Spot) (chain chain' : List Item) (lines : List Place) (t u : TextLines)
    → AlikeChains d.names n chain chain' → AreTextLines d path p chain lines t → AreTextLines (with_names d n) path p chain' lines u
    → OneGiven d.names n t u
unfolding AreTextLines
one_lines d n path p chain chain' [] t u same last last' = last_alike d n p chain chain' [] t u same last last'
one_lines d n path p chain chain' (line ∷ lines) t u same (k, a, b, i, inl (h, e)) (k', a', b', i', inl (h', e')) =
    last_alike d n p chain chain' (line ∷ lines) t u same (k, a, b, i, e) (k', a', b', i', e')
one_lines d n path p chain chain' (line ∷ lines) t u same (k, a, b, i, inl (h, e)) (k', a', b', i', inr (h', more)) = absurd (true≢false (sym h ∙ h'))
one_lines d n path p chain chain' (line ∷ lines) t u same (k, a, b, i, inr (h, more)) (k', a', b', i', inl (h', e')) = absurd (true≢false (sym h' ∙ h))
one_lines d n path p chain chain' (line ∷ lines) t u same (k, a, b, i, inr (h, more)) (k', a', b', i', inr (h', more')) =
    let o = one_line_read d n (content_at d p) k k' a a' b b' i i' in
    let next : MathBraces → Spot = λ z. spot (offset (unindented (at_rest line (front path line.rest)))) z in
    let free : IfSome a.1 HasNoIndex = break_each IsWithoutIndex refl (λ by_backslash. refl) d.names.texts (content_at d p) k a i in
    let alike = break_alike d.names n a.1 (add_tokens chain k) (add_tokens chain' k') free (tokens_alike d.names n chain chain' k k' same o.0) in
    one_lines d n path (next b) (add_break a.1 (add_tokens chain k)) (add_break a.1 (add_tokens chain' k')) lines t u alike more
    (rw (o.1, o.2) more')

-- an ATX heading has one chain, apart from indices, and one end
pub one_heading : (d : Document) (n : Names) (start : ℕ) (i i' : Option HeadingIndex) (c c' : List Item) (e e' : ℕ) → IsHeading d start i c e
    → IsHeading (with_names d n) start i' c' e' → AlikeChains d.names n c c' × (e ≡ e')
one_heading d n start i i' c c' e e' h h' =
    let o = one_line_read d n (heading_content d start) h.tokens h'.tokens h.answer h'.answer h.after h'.after h.line h'.line in
    grind (arith, heading_chain_alike, close_alike, tokens_alike)
