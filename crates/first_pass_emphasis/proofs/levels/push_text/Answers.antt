use Rattle.std.proofs.Common.{◌++◌, ◌∷◌, [], ◌∙◌, ap, replicate, append_assoc}
use Rattle.std.proofs.lemmas.List.{replicate-append-replicate}
use Rattle.first_pass_emphasis.specs.declared.role.Role.TheVariants.{Text}
use Rattle.first_pass_emphasis.proofs.levels.push_text.Goals as goal

pub loop-preserved : goal.loop-preserved
loop-preserved c =
    c.in_ok-push.ensures.items ∙ ap (λ l. l ++ Text ∷ []) c.loop.invariant ∙ append_assoc c.args.roles.now.items (replicate c.loop.counter Text) (Text ∷ [])
    ∙ ap (λ l. c.args.roles.now.items ++ l) (replicate-append-replicate c.loop.counter 1 Text)
