use Rattle.std.proofs.Common.{rules, ◌≡◌, length, ◌++◌, ◌∷◌, [], ◌∙◌, ap, sym, refl, append-nil, replicate}
use Rattle.first_pass_emphasis.specs.declared.role.Role.TheVariants.{Text}
use Rattle.first_pass_emphasis.specs.declared.token.Token.TheVariants.{Delimiter, Quotation as QuotationToken, Other as OtherToken}
use Rattle.first_pass_emphasis.specs.Parts.{Delimiters, Quotation, Other}
use Rattle.first_pass_emphasis.proofs.Walks.{closed_level, one_part, opened_level, read_token}
use Rattle.first_pass_emphasis.proofs.levels.read.Goals as goal

pub returns-in_ok-open-in-Before-clause-before : goal.returns-in_ok-open-in-Before-clause-before
returns-in_ok-open-in-Before-clause-before c = λ g h.
    opened_level c.args.content.now c.args.options g c.args.mark c.args.following.now c.args.walk.now c.open.new.walk c.in-Before.from
    (sym c.in-Before.ensures) c.in_ok-open-in-Before.ensures h

pub returns-in_ok-close-in-After-clause-before : goal.returns-in_ok-close-in-After-clause-before
returns-in_ok-close-in-After-clause-before c = λ g h.
    closed_level c.args.content.now c.args.options g c.args.mark c.args.following.now c.args.walk.now c.close.new.walk
    (sym c.in-After.ensures) c.in_ok-close-in-After.ensures h

pub returns-in_ok-push_text-in-Delimiter-clause-before : goal.returns-in_ok-push_text-in-Delimiter-clause-before
returns-in_ok-push_text-in-Delimiter-clause-before c = λ g h.
    let here : c.len-at.result ≡ length c.args.walk.now.pass.roles.items = search (rules, c.len-at.ensures) in
    read_token c.args.content.now c.args.options g c.args.mark c.args.following.now c.args.walk.now _ (Delimiter c.in-Delimiter.run') _
    (sym c.in-Within.ensures) c.in-Delimiter.ensures.value c.in-Delimiter.ensures.marks refl
    (λ o from ts k. one_part o from ts c.args.walk.now _ (Delimiters c.in-Delimiter.run') k
    (c.in_ok-push_text-in-Delimiter.ensures ∙ ap (λ l. c.args.walk.now.pass.roles.items ++ l) (sym (append-nil (replicate c.in-Delimiter.run'.size Text))))
    (c.in_ok-push-in-Delimiter.ensures.items ∙ ap (λ n. c.args.walk.now.runs.items ++ record { run = c.in-Delimiter.run'; at = n } ∷ []) here)
    (sym (append-nil c.args.walk.now.quotes.items)) refl refl) h

pub returns-in_ok-push-in-Quotation-2-clause-before : goal.returns-in_ok-push-in-Quotation-2-clause-before
returns-in_ok-push-in-Quotation-2-clause-before c = λ g h.
    let here : c.len-at-in-Quotation.result ≡ length c.args.walk.now.pass.roles.items = search (rules, c.len-at-in-Quotation.ensures) in
    read_token c.args.content.now c.args.options g c.args.mark c.args.following.now c.args.walk.now _ (QuotationToken c.in-Quotation.quote) 0
    (sym c.in-Within.ensures) c.in-Quotation.ensures.value c.in-Quotation.ensures.marks refl
    (λ o from ts k. one_part o from ts c.args.walk.now _ (Quotation c.in-Quotation.quote) k c.in_ok-push-in-Quotation-2.ensures.items
    (sym (append-nil c.args.walk.now.runs.items))
    (c.in_ok-push-in-Quotation.ensures.items
    ∙ ap (λ n. c.args.walk.now.quotes.items ++ record { quote = c.in-Quotation.quote; at = n } ∷ []) here) refl refl) h

pub returns-in_ok-push-in-Other-clause-before : goal.returns-in_ok-push-in-Other-clause-before
returns-in_ok-push-in-Other-clause-before c = λ g h.
    read_token c.args.content.now c.args.options g c.args.mark c.args.following.now c.args.walk.now _ OtherToken 0 (sym c.in-Within.ensures)
    c.in-Other.ensures.value c.in-Other.ensures.marks refl
    (λ o from ts k. one_part o from ts c.args.walk.now _ (Other (Text ∷ [])) k c.in_ok-push-in-Other.ensures.items
    (sym (append-nil c.args.walk.now.runs.items)) (sym (append-nil c.args.walk.now.quotes.items)) refl refl) h
