-- Facts that hold under answers of a handler.
use Rattle.std.proofs.Common.{◌≡◌, ℕ, ◌+◌, ◌-◌, ◌<◌, ◌≤◌, ◌==◌, nat_lt, Bool, true, false, true≢false, List, length, drop, Option, Some, None, Result, Ok, refl}
use Rattle.std.proofs.Common.{sym, ap, subst, ◌∙◌, arith, Bor, eqb-true, length-drop, if◌then◌else◌, MatchOption, IsSomeAnd}
use Rattle.std.specs.declared.alloc.AllocError.{AllocError}
use Rattle.std.proofs.lemmas.Bool.{lt-ltb}
use Rattle.std.proofs.lemmas.Bool.Decides.{nat_tests}
use Rattle.first_pass_items.specs.declared.cow_str.CowStr.{CowStr}
use Rattle.first_pass_items.specs.CowText.{text_of}
use Rattle.first_pass_links.specs.Labels.{ReturnsAfter, AnswersWith, CanErr, FailsOnLabel, IsLabelUnder, ReadsLabel, continuing_at}
use Rattle.first_pass_links.specs.Units.{UnderAnswers}

-- if the handler answers as a prefix does, the fact holds for this prefix
pub under_with : {text : List ℕ} {post : Bor (List ℕ) → Result (Option ℕ) AllocError → Type 0} {from upto : ℕ} {Fact : (List ℕ → Option ℕ) → Type 0}
    → UnderAnswers text post from upto Fact → (prefix : List ℕ → Option ℕ) → AnswersWith text prefix post → Fact prefix
under_with u prefix a = u.holds prefix (λ at k.
    let w = u.allowed at k in
    ap prefix (sym w.past_is) ∙ a w.following (u.answers at) (at + 1) w.boundary w.past_is w.returns)

-- a fact that needs no answer
pub under_none : {text : List ℕ} {post : Bor (List ℕ) → Result (Option ℕ) AllocError → Type 0} {from upto : ℕ} {Fact : (List ℕ → Option ℕ) → Type 0}
    → ((prefix : List ℕ → Option ℕ) → Fact prefix) → UnderAnswers text post from upto Fact
under_none fact = record {
  asked = λ at. false;
  answers = λ at. None;
  between = λ at k. absurd (true≢false (sym k));
  allowed = λ at k. absurd (true≢false (sym k));
  holds = λ prefix f. fact prefix;
}

same_true : (n : ℕ) → (n == n) ≡ true
same_true n = grind (arith, nat_tests)

-- a fact that needs one answer
pub under_one : {text : List ℕ} {post : Bor (List ℕ) → Result (Option ℕ) AllocError → Type 0} {upto : ℕ} {Fact : (List ℕ → Option ℕ) → Type 0}
    (at : ℕ) (answer : Option ℕ) → at < upto → ReturnsAfter text at (Ok answer) post
    → ((prefix : List ℕ → Option ℕ) → prefix (drop (at + 1) text) ≡ answer → Fact prefix) → UnderAnswers text post at upto Fact
under_one {text} {post} at answer before allowed fact = record {
  asked = λ n. n == at;
  answers = λ n. answer;
  between = λ n k. let e = eqb-true n at k in (omega arith, omega arith);
  allowed = λ n k. subst (λ m. ReturnsAfter text m (Ok answer) post) (sym (eqb-true n at k)) allowed;
  holds = λ prefix f. fact prefix (f at (same_true at));
}

-- a fact that follows, and holds under the same answers
pub under_map : {text : List ℕ} {post : Bor (List ℕ) → Result (Option ℕ) AllocError → Type 0} {from upto first last : ℕ}
    {Fact Next : (List ℕ → Option ℕ) → Type 0} → UnderAnswers text post from upto Fact → first ≤ from → upto ≤ last
    → ((prefix : List ℕ → Option ℕ) → Fact prefix → Next prefix) → UnderAnswers text post first last Next
under_map u before after next = record {
  asked = u.asked;
  answers = u.answers;
  between = λ at k. let b = u.between at k in (omega arith, omega arith);
  allowed = u.allowed;
  holds = λ prefix f. next prefix (u.holds prefix f);
}

-- a test by the one of two parts in which an offset is
either_asked : (P : Type 0) (b c d : Bool) → (if b then c else d) ≡ true → (b ≡ true → c ≡ true → P) → (b ≡ false → d ≡ true → P) → P
either_asked P true c d k one two = one refl k
either_asked P false c d k one two = two refl k

lt_false : (a b : ℕ) → b ≤ a → nat_lt a b ≡ false
lt_false a b h = grind (arith, nat_tests)

-- a fact that follows from two, the second under answers after the first
pub under_both : {text : List ℕ} {post : Bor (List ℕ) → Result (Option ℕ) AllocError → Type 0} {from mid upto : ℕ}
    {One Two Fact : (List ℕ → Option ℕ) → Type 0} → UnderAnswers text post from mid One → UnderAnswers text post mid upto Two → (from ≤ mid) × (mid ≤ upto)
    → ((prefix : List ℕ → Option ℕ) → One prefix → Two prefix → Fact prefix) → UnderAnswers text post from upto Fact
under_both {text} {post} {from} {mid} {upto} u v (before, after) both = record {
  asked = λ at. if nat_lt at mid then u.asked at else v.asked at;
  answers = λ at. if nat_lt at mid then u.answers at else v.answers at;
  between = λ at k. either_asked ((from ≤ at) × (at < upto)) (nat_lt at mid) _ _ k (λ b h. let w = u.between at h in (omega arith, omega arith))
      (λ b h. let w = v.between at h in (omega arith, omega arith));
  allowed = λ at k. either_asked (ReturnsAfter text at (Ok (if nat_lt at mid then u.answers at else v.answers at)) post) (nat_lt at mid) _ _ k
      (λ b h. rw b (u.allowed at h)) (λ b h. rw b (v.allowed at h));
  holds = λ prefix f. both prefix
      (u.holds prefix (λ at h. let b = lt-ltb at mid (u.between at h).1 in
      f at (rw b h) ∙ rw b refl))
      (v.holds prefix (λ at h. let b = lt_false at mid (v.between at h).0 in
      f at (rw b h) ∙ rw b refl));
}

-- an answer after an earlier line ending stays if the label continues after a later one
continuing_before : (text : List ℕ) (at n : ℕ) (prefix : List ℕ → Option ℕ) → at < n → n < length text
    → continuing_at text n prefix (drop (at + 1) text) ≡ prefix (drop (at + 1) text)
continuing_before text at n prefix before within =
    let d = length-drop (at + 1) text in
    let e = length-drop (n + 1) text in
    let other : (length (drop (at + 1) text) == length (drop (n + 1) text)) ≡ false = grind (arith, nat_tests, d, e) in
    rw other refl

-- a fact that holds under some answers also holds if the label continues after a later line ending
pub under_continuing : {text : List ℕ} {post : Bor (List ℕ) → Result (Option ℕ) AllocError → Type 0} {from upto : ℕ}
    {Fact : (List ℕ → Option ℕ) → Type 0} (n : ℕ) → UnderAnswers text post from upto Fact → upto ≤ n → n < length text
    → UnderAnswers text post from upto (λ prefix. Fact prefix × Fact (continuing_at text n prefix))
under_continuing {text} n u after within = record {
  asked = u.asked;
  answers = u.answers;
  between = u.between;
  allowed = u.allowed;
  holds = λ prefix f. (
    u.holds prefix f,
    u.holds (continuing_at text n prefix) (λ at k. let b = (u.between at k).1 in continuing_before text at n prefix (omega arith) within ∙ f at k),
  );
}

-- a result is the label under at most one label
same_label : (o p : Option (ℕ × List ℕ)) (answer : Option (ℕ × CowStr))
    → MatchOption o (answer ≡ None) (λ label. IsSomeAnd answer (λ found. (found.0 ≡ label.0) × (text_of found.1 ≡ label.1)))
    → MatchOption p (answer ≡ None) (λ label. IsSomeAnd answer (λ found. (found.0 ≡ label.0) × (text_of found.1 ≡ label.1)))
    → o ≡ p
same_label None None answer h k = refl
same_label None (Some (m, ys)) None h k = absurd k
same_label None (Some (m, ys)) (Some (j, c)) h k = cc
same_label (Some (n, xs)) None None h k = absurd h
same_label (Some (n, xs)) None (Some (j, c)) h k = cc
same_label (Some (n, xs)) (Some (m, ys)) None h k = absurd h
same_label (Some (n, xs)) (Some (m, ys)) (Some (j, c)) h k = rw (← h.0, ← k.0, ← h.1, ← k.1) refl

-- the length of the bytes after a line ending tells its offset, so a prefix can give the answer there
answers_at : {text : List ℕ} {post : Bor (List ℕ) → Result (Option ℕ) AllocError → Type 0} {from : ℕ} {Fact : (List ℕ → Option ℕ) → Type 0}
    (u : UnderAnswers text post from (length text) Fact) (at : ℕ) → u.asked at ≡ true
    → u.answers (length text - (length (drop (at + 1) text) + 1)) ≡ u.answers at
answers_at {text} u at k = ap u.answers (let w = (u.between at k).1 in let d = length-drop (at + 1) text in omega arith)

-- the label under answers of the handler
pub under_read : {text : List ℕ} {post : Bor (List ℕ) → Result (Option ℕ) AllocError → Type 0} {in_table : Bool} {answer : Option (ℕ × CowStr)}
    → UnderAnswers text post 0 (length text) (λ prefix. IsLabelUnder prefix in_table text answer) → ReadsLabel text in_table post answer
under_read {text} {post} {in_table} {answer} u =
    let prefix : List ℕ → Option ℕ = λ bs. u.answers (length text - (length bs + 1)) in
    let there : (at : ℕ) → u.asked at ≡ true → prefix (drop (at + 1) text) ≡ u.answers at = λ at k. answers_at u at k in
    let label = u.holds prefix there in
    record {
      asked = u.asked;
      prefix = prefix;
      allowed = λ at k. subst (λ a. ReturnsAfter text at (Ok a) post) (sym (there at k)) (u.allowed at k);
      label = label;
      enough = λ other f. same_label _ _ answer (u.holds other (λ at k. f at k ∙ there at k)) label;
    }

-- reading may fail under answers of the handler
pub under_fails : {text : List ℕ} {post : Bor (List ℕ) → Result (Option ℕ) AllocError → Type 0} {in_table : Bool}
    → UnderAnswers text post 0 (length text) (λ prefix. CanErr prefix in_table text post) → FailsOnLabel text in_table post
under_fails {text} {post} {in_table} u =
    let prefix : List ℕ → Option ℕ = λ bs. u.answers (length text - (length bs + 1)) in
    let there : (at : ℕ) → u.asked at ≡ true → prefix (drop (at + 1) text) ≡ u.answers at = λ at k. answers_at u at k in
    record {
      asked = u.asked;
      prefix = prefix;
      allowed = λ at k. subst (λ a. ReturnsAfter text at (Ok a) post) (sym (there at k)) (u.allowed at k);
      fails = λ other f. u.holds other (λ at k. f at k ∙ there at k);
    }
