-- Lines whose tokens differ only in the indices of the texts that they name read alike, and so do their chains.
use Rattle.std.proofs.Common.{◌≡◌, ℕ, ◌+◌, ◌-◌, ◌==◌, ◌&&◌, Bool, false, nat_lt, List, ◌∷◌, ◌++◌, map, slice_get, Option, None, IfSome, refl, sym, ap, ◌∙◌}
use Rattle.std.proofs.Common.{if◌then◌else◌, option_and_then, option_map, arith, []}
use Rattle.first_pass_grammar.proofs.Common.{CowStr, text_of, CowIndex, Item, ItemBody, SynthesizeText, is_escaped, cut_item, text_token, add_token, add_text}
use Rattle.first_pass_grammar.proofs.Common.{close_break, cut, Names, Named, AText, TextAt, index_of, only_kind, named, read, chain_end}
use Rattle.first_pass_grammar.proofs.Common.{add_break, heading_chain, marker_items}
use Rattle.first_pass_tokens.specs.Alike.{text_among, BodiesAlike, ItemsAlike, AreAlike}
use Rattle.first_pass_grammar.proofs.Names.NoIndex.{HasNoIndex, HasTextIndex, only_reads}
use Rattle.first_pass_grammar.proofs.Each.EachToken.{AreEach}
use Rattle.first_pass_grammar.proofs.Uniqueness.Alike.{AlikeChains, chains_append, tokens_alike, kind_tests, chosen}

-- the index of a text names the text at its place among those that are named
read_text : (o : Option CowStr) → option_map (λ (cow : CowStr). AText (text_of cow)) o ≡ option_map AText (option_map text_of o)
read_text o = grind arith

texts_read : (m n : Names) (ix iy : CowIndex) → text_among m.texts ix ≡ text_among n.texts iy → named m (TextAt ix) ≡ named n (TextAt iy)
texts_read m n ix iy same = read_text (slice_get m.texts ix.0) ∙ ap (option_map AText) same ∙ sym (read_text (slice_get n.texts iy.0))

-- bodies that are alike read alike if they have no index except that of a text
abbrev ReadAlike : Names → Names → ItemBody → ItemBody → Type 0
ReadAlike m n b c = (only_kind b ≡ only_kind c) × (option_and_then (named m) (index_of b) ≡ option_and_then (named n) (index_of c))

none_read : (m n : Names) (b c : ItemBody) → index_of b ≡ None → b ≡ c → ReadAlike m n b c
none_read m n b c none same = grind arith

bodies_read : (m n : Names) (b c : ItemBody) → HasTextIndex b → BodiesAlike m.texts n.texts b c → ReadAlike m n b c
bodies_read m n b c free h = grind (arith, SynthesizeText, texts_read, none_read)

item_reads : (m n : Names) (x y : Item) → HasTextIndex x.body → ItemsAlike m.texts n.texts x y → read m x ≡ read n y
item_reads m n x y free h = grind (arith, bodies_read)

-- tokens that are alike read alike
pub alike_reads : (m n : Names) (xs ys : List Item) → AreEach HasTextIndex xs → AreAlike m.texts n.texts xs ys → AlikeChains m n xs ys
alike_reads m n [] [] free h = refl
alike_reads m n (x ∷ xs) (y ∷ ys) free h = grind (arith, item_reads, alike_reads m n xs ys free.1 h.1)
alike_reads m n xs ys free h = absurd h

-- chains with a text added to each
text_alike : (m n : Names) (from to : ℕ) (escaped : Bool) (xs us : List Item) → AlikeChains m n xs us
    → AlikeChains m n (add_text from to escaped xs) (add_text from to escaped us)
text_alike m n from to escaped xs us h =
    let x : Item = text_token from to escaped in
    chosen (AlikeChains m n) (nat_lt from to) _ (add_token xs x) (add_token us x) xs us refl (tokens_alike m n xs us (x ∷ []) (x ∷ []) h refl) h

-- chains with a break added to each, or with the part of the break that stays after the last line
pub close_alike : (m n : Names) (o : Option Item) (xs us : List Item) → AlikeChains m n xs us → AlikeChains m n (close_break o xs) (close_break o us)
close_alike m n o xs us h = grind (arith, chosen, text_alike)

pub break_alike : (m n : Names) (o : Option Item) (xs us : List Item) → IfSome o HasNoIndex → AlikeChains m n xs us
    → AlikeChains m n (add_break o xs) (add_break o us)
break_alike m n o xs us free h = grind (arith, chains_append, only_reads)

-- chains with a marker before each
pub marked_alike : (m n : Names) (marker : Option Item) (xs us : List Item) → IfSome marker HasNoIndex → AlikeChains m n xs us
    → AlikeChains m n (marker_items marker ++ xs) (marker_items marker ++ us)
marked_alike m n marker xs us free h = grind (arith, only_reads)

-- chains that read alike end at the same place
abbrev end_read : ℕ → List (Item × Option Named) → ℕ
end_read start [] = start
end_read start (x ∷ []) = x.0.«end»
end_read start (x ∷ y ∷ ys) = end_read start (y ∷ ys)

read_end : (m : Names) (start : ℕ) (xs : List Item) → end_read start (map (read m) xs) ≡ chain_end start xs
read_end m start [] = refl
read_end m start (x ∷ []) = refl
read_end m start (x ∷ y ∷ ys) = read_end m start (y ∷ ys)

pub ends_alike : (m n : Names) (start : ℕ) (xs us : List Item) → AlikeChains m n xs us → chain_end start xs ≡ chain_end start us
ends_alike m n start xs us h = sym (read_end m start xs) ∙ ap (end_read start) h ∙ read_end n start us

-- chains that read alike and are cut at the same place read alike
abbrev cut_read_item : ℕ → Item × Option Named → Item × Option Named
cut_read_item e x = (cut_item e x.0, x.1)

abbrev cut_read : ℕ → List (Item × Option Named) → List (Item × Option Named)
cut_read e [] = []
cut_read e (x ∷ xs) =
    if nat_lt x.0.start e
    then cut_read_item e x ∷ cut_read e xs
    else (if is_escaped x.0.body && (x.0.start == e) then (text_token (e - 1) e false, None) ∷ [] else [])

cut_by : (m : Names) (e : ℕ) (x : Item) (xs : List Item) (rest : List (Item × Option Named)) (t u v : Bool) → map (read m) xs ≡ rest
    → map (read m) (if t then (if v then record x { «end» = e } else x) ∷ xs else (if u then text_token (e - 1) e false ∷ [] else []))
    ≡ (if t then ((if v then record (read m x).0 { «end» = e } else (read m x).0), (read m x).1) ∷ rest
    else (if u then (text_token (e - 1) e false, None) ∷ [] else []))
cut_by m e x xs rest t u v h = grind arith

read_cut : (m : Names) (e : ℕ) (xs : List Item) → map (read m) (cut e xs) ≡ cut_read e (map (read m) xs)
read_cut m e [] = refl
read_cut m e (x ∷ xs) = grind (arith, kind_tests, cut_by, read_cut m e xs)

pub cut_alike : (m n : Names) (e : ℕ) (xs us : List Item) → AlikeChains m n xs us → AlikeChains m n (cut e xs) (cut e us)
cut_alike m n e xs us h = read_cut m e xs ∙ ap (cut_read e) h ∙ sym (read_cut n e us)

pub heading_chain_alike : (m n : Names) (kept start : ℕ) (xs us : List Item) → AlikeChains m n xs us
    → AlikeChains m n (heading_chain kept start xs) (heading_chain kept start us)
unfolding heading_chain
heading_chain_alike m n kept start xs us h = grind (arith, chosen, cut_alike)
