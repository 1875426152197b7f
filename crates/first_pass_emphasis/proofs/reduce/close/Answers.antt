use Rattle.std.proofs.Common.{arith, rules, ◌≡◌, length, refl, sym, subst, ap, ◌++◌, ◌∙◌, ◌-◌, List, ◌∷◌, []}
use Rattle.first_pass_emphasis.specs.declared.reduce.Entry.{Entry}
use Rattle.first_pass_emphasis.specs.Bottoms.{IsBottom, AreBottoms}
use Rattle.first_pass_emphasis.proofs.Lists.{length_over}
use Rattle.first_pass_emphasis.proofs.Steps.{nothing_opens, opens, room, pair_stands, none_stands, vain}
use Rattle.first_pass_emphasis.proofs.reduce.close.Goals as goal

pub overflow_sub-left : goal.overflow_sub-left
overflow_sub-left c =
    (room c.requires.ready.0 c.requires.ready.1 c.args.pass.now c.args.run c.args.more c.in-Some.index _ c.args.at _ c.requires.ready.2
    (opens c.requires.ready.0 c.args.pass.now c.args.run c.args.more c.in-Some.index c.index-opener.result.now _ c.requires.ready.2.stands.stack
    c.deref-2.ensures.value c.in-Some.ensures c.index-opener.ensures) c.width-taken.ensures).0

pub overflow_sub-end : goal.overflow_sub-end
overflow_sub-end c =
    (room c.requires.ready.0 c.requires.ready.1 c.args.pass.now c.args.run c.args.more c.in-Some.index _ c.args.at _ c.requires.ready.2
    (opens c.requires.ready.0 c.args.pass.now c.args.run c.args.more c.in-Some.index c.index-opener.result.now _ c.requires.ready.2.stands.stack
    c.deref-2.ensures.value c.in-Some.ensures c.index-opener.ensures) c.width-taken.ensures).1

pub write-requires : goal.write-requires
write-requires c =
    (room c.requires.ready.0 c.requires.ready.1 c.args.pass.now c.args.run c.args.more c.in-Some.index _ c.args.at _ c.requires.ready.2
    (opens c.requires.ready.0 c.args.pass.now c.args.run c.args.more c.in-Some.index c.index-opener.result.now _ c.requires.ready.2.stands.stack
    c.deref-2.ensures.value c.in-Some.ensures c.index-opener.ensures) c.width-taken.ensures).2

pub write-requires-in-Some : goal.write-requires-in-Some
write-requires-in-Some c =
    let r = (room c.requires.ready.0 c.requires.ready.1 c.args.pass.now c.args.run c.args.more c.in-Some.index _ c.args.at _ c.requires.ready.2
    (opens c.requires.ready.0 c.args.pass.now c.args.run c.args.more c.in-Some.index c.index-opener.result.now _ c.requires.ready.2.stands.stack
    c.deref-2.ensures.value c.in-Some.ensures c.index-opener.ensures) c.width-taken.ensures) in
    let same : length c.write.new.roles.items ≡ length c.args.pass.now.roles.items =
    ap length c.write.ensures ∙ length_over c.args.pass.now.roles.items _ _ _ r.2 in
    omega arith

pub nearest-requires : goal.nearest-requires
nearest-requires c =
    subst (λ (x : List Entry). IsBottom x c.args.run c.bottom_of-low.result) (sym c.deref-2.ensures.value)
    (c.bottom_of-low.ensures c.args.pass.now.stack.items
    (subst (AreBottoms c.args.pass.now.stack.items) (sym c.deref.ensures.value) c.requires.ready.2.stands.bottoms))

pub returns-in_ok-record_bottom-in-None : goal.returns-in_ok-record_bottom-in-None
returns-in_ok-record_bottom-in-None c = λ p rest st.
    none_stands p rest c.args.at c.args.pass.now _ c.args.run c.args.more st refl refl
    (c.in_ok-record_bottom-in-None.ensures c.args.pass.now.stack.items st.stands.bottoms
    (vain c.args.pass.now.stack.items _ c.args.run c.args.more c.len.result c.deref-2.ensures.value c.requires.some (search rules) c.in-None.ensures))
    (nothing_opens p c.args.pass.now c.args.run c.args.more _ st.stands.stack c.deref-2.ensures.value c.in-None.ensures)

pub returns-in_ok-push-in-Some : goal.returns-in_ok-push-in-Some
returns-in_ok-push-in-Some c = λ p rest st.
    pair_stands p rest c.args.pass.now _ c.args.run c.args.more c.in-Some.index _ c.args.at _ c.index-opener.result.now c.format-made.result
    c.write.new.roles.items st
    (opens p c.args.pass.now c.args.run c.args.more c.in-Some.index c.index-opener.result.now _ st.stands.stack c.deref-2.ensures.value c.in-Some.ensures
    c.index-opener.ensures)
    c.width-taken.ensures c.format-made.ensures refl c.write.ensures c.write-in-Some.ensures
    (c.in_ok-push-in-Some.ensures.items ∙ ap (λ (x : List Entry). x ++ record {
      run = c.index-opener.result.now.run;
      left = c.index-opener.result.now.left - c.width-taken.result;
      «end» = c.index-opener.result.now.«end» - c.width-taken.result;
    } ∷ []) c.truncate.ensures.items)
    c.lower.ensures
