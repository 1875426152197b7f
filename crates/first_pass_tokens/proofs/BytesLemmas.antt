-- Each token of a chain has a byte, so a chain in order has at most as many tokens as bytes.
use Rattle.std.proofs.Common.{◌≡◌, ℕ, zero, suc, ◌+◌, ◌-◌, ◌≤◌, ◌<◌, List, ◌∷◌, ◌++◌, length, Option, refl, ap, arith, length-append, []}
use Rattle.first_pass_tokens.proofs.Common.{CowStr, Item, cases_Bool, cond_both, MathBraces, Inline, AreLineTokens, IsCell, line_end_len, Forest, modify}
use Rattle.first_pass_tokens.proofs.Common.{with_end, appended, add_token, add_tokens, close_break, cut, with_token, with_tokens, AppendsLine, AppendsCell}
use Rattle.first_pass_tokens.proofs.Common.{TreeIndex}
use Rattle.first_pass_tokens.proofs.InOrder.{AreInOrder, HaveBytes}
use Rattle.first_pass_tokens.proofs.ChainLemmas.{add_text-some, add_token-by}
use Rattle.first_pass_tokens.proofs.LineLemmas.{cell_keeps, line_keeps}

-- a chain in order has at most as many items as bytes
pub few_in_order : (text : List ℕ) (from to : ℕ) (chain : List Item) → AreInOrder text from to chain → HaveBytes chain → length chain + from ≤ to
few_in_order text from to [] h k = omega arith
few_in_order text from to (x ∷ xs) h k = grind (arith, few_in_order text x.«end» to xs h.4 k.1)

-- a token is appended
pub bytes_add : (chain : List Item) (y : Item) → y.start < y.«end» → HaveBytes chain → HaveBytes (add_token chain y)
bytes_add chain y some =
    add_token-by (λ xs ys. HaveBytes xs → HaveBytes ys) y (λ h. (some, tt)) (λ x t first second place h. (omega (arith, h.0), tt))
    (λ x xs ys add h. (h.0, add h.1)) chain

-- tokens are appended
pub bytes_adds : (chain tokens : List Item) → HaveBytes tokens → HaveBytes chain → HaveBytes (add_tokens chain tokens)
bytes_adds chain [] k h = h
bytes_adds chain (x ∷ xs) k h = bytes_adds (add_token chain x) xs k.1 (bytes_add chain x k.0 h)

-- the backslash of the break of the last line is appended, or nothing
pub bytes_closed : (break : Option Item) (chain : List Item) → HaveBytes chain → HaveBytes (close_break break chain)
bytes_closed break chain h = grind (arith, cond_both, add_text-some, bytes_add)

-- another chain is appended
pub bytes_append : (xs ys : List Item) → HaveBytes xs → HaveBytes ys → HaveBytes (xs ++ ys)
bytes_append [] ys h k = k
bytes_append (x ∷ xs) ys h k = (h.0, bytes_append xs ys h.1 k)

-- the tokens of a line
pub line_has_bytes : {texts : List CowStr} {s : Inline} {tokens : List Item} {answer : ℕ × Option Item} {after : MathBraces}
    → AreLineTokens texts s tokens answer after → HaveBytes tokens
line_has_bytes {texts} {s} line = line_keeps s (λ at. HaveBytes) (λ at to chain order h. h) (λ at chain x is h. bytes_add chain x is.some h) line tt

-- a chain does not get longer when it is cut
pub cut_few : (e : ℕ) (chain : List Item) → length (cut e chain) ≤ length chain
cut_few e [] = omega arith
cut_few e (x ∷ xs) = grind (arith, cases_Bool, cut_few e xs)

-- a token makes a chain longer by one at most
pub few_add : (chain : List Item) (y : Item) → length (add_token chain y) ≤ length chain + 1
few_add chain y =
    add_token-by (λ xs ys. length ys ≤ length xs + 1) y (omega arith) (λ x t first second place. omega arith) (λ x xs ys add. omega arith) chain

-- A cell has at most as many tokens as bytes.
pub few_in_cell : {texts : List CowStr} {s : Inline} {tokens : List Item} {end : ℕ} {after : MathBraces}
    → IsCell texts s tokens end after → length tokens + s.start ≤ end
few_in_cell {texts} {s} cell =
    cell_keeps s (λ at chain. length chain + s.start ≤ at) (λ at to chain order h. omega arith)
    (λ at chain x is h. omega (arith, few_add chain x, is.from, is.some)) cell (omega arith)

pub length-modify : (nodes : List (ℕ × Item)) (i : ℕ) (g : Item → Item) → length (modify nodes i g) ≡ length nodes
length-modify [] i g = refl
length-modify (n ∷ nodes) zero g = refl
length-modify (n ∷ nodes) (suc i) g = ap suc (length-modify nodes i g)

few_ended : (f : Forest Item) (e : ℕ) (c : Option TreeIndex) → length (with_end f e c).nodes ≤ length f.nodes + 1
few_ended f e c = grind (arith, length-modify)

few_token : (f : Forest Item) (x : Item) → length (with_token f x).nodes ≤ length f.nodes + 1
few_token f x = grind (arith, length-append, cond_both, few_ended)

few_tokens : (f : Forest Item) (tokens : List Item) → length (with_tokens f tokens).nodes ≤ length f.nodes + length tokens
few_tokens f [] = omega arith
few_tokens f (x ∷ xs) = grind (arith, few_token, few_tokens (with_token f x) xs)

few_after : (old new : Forest Item) (tokens : List Item) (start end : ℕ) → new ≡ with_tokens old tokens → length tokens + start ≤ end
    → length new.nodes ≤ length old.nodes + (end - start)
few_after old new tokens start end is few = omega (arith, ap (λ (f : Forest Item). length f.nodes) is, few_tokens old tokens, few)

-- at most as many nodes are appended for a line as it has bytes
pub few_of_line : {texts : List CowStr} {s : Inline} {old new : Forest Item} {answer : ℕ × Option Item} {after : MathBraces}
    → AppendsLine texts s old new answer after → length new.nodes ≤ length old.nodes + (answer.0 - s.start)
few_of_line {texts} {s} {old} {new} {answer} appended =
    let line = appended.line in
    let few : length appended.tokens + s.start ≤ line.content_end =
    line_keeps s (λ at chain. length chain + s.start ≤ at) (λ at to chain order h. omega arith)
    (λ at chain x is h. omega (arith, few_add chain x, is.from, is.some)) line (omega arith) in
    let answer_is : answer.0 ≡ line.content_end + line_end_len s line.content_end = ap (λ (a : ℕ × Option Item). a.0) line.answer_is in
    few_after old new appended.tokens s.start answer.0 appended.tree_is (omega arith)

-- and so for a cell
pub few_of_cell : {texts : List CowStr} {s : Inline} {old new : Forest Item} {end : ℕ} {after : MathBraces}
    → AppendsCell texts s old new end after → length new.nodes ≤ length old.nodes + (end - s.start)
few_of_cell {texts} {s} {old} {new} {end} cell = few_after old new cell.tokens s.start end cell.tree_is (few_in_cell cell.cell)
