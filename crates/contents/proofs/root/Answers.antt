use mathlib.Core.Path.{sym, ◌∙◌, ap}
use Prim.Native.Nat.{◌-◌}
use native.Mathlib.Omega.{arith}
use Rattle.session.specs.Record.{record_at, record_count, number_of, name_of, parameter_of}
use Rattle.session.proofs.Laws.Record.{parameter_number, parameter_nil}
use Rattle.session.proofs.Laws.Contents.{counts, root_record_lem}
use Rattle.contents.proofs.root.Goals as goal

pub overflow_sub-r : goal.overflow_sub-r
overflow_sub-r c = omega (arith, counts c.args.session.now c.requires)

pub byte_at-object-requires : goal.byte_at-object-requires
byte_at-object-requires c = omega (arith, counts c.args.session.now c.requires)

pub byte_at-name-requires : goal.byte_at-name-requires
byte_at-name-requires c = omega (arith, counts c.args.session.now c.requires)

pub byte_at-requires : goal.byte_at-requires
byte_at-requires c = omega (arith, counts c.args.session.now c.requires)

pub word_at-requires : goal.word_at-requires
word_at-requires c = omega (arith, counts c.args.session.now c.requires)

pub returns-then-byte_at-eq-NUMBER_TAG : goal.returns-then-byte_at-eq-NUMBER_TAG
returns-then-byte_at-eq-NUMBER_TAG c =
    let t = c.args.session.now in
    let there = sym (root_record_lem t c.requires) in
    let object = c.byte_at-object.ensures ∙ ap number_of there in
    let name = c.byte_at-name.ensures ∙ ap name_of there in
    let parameter =
    parameter_number _ c.word_at.result (sym c.byte_at.ensures ∙ c.if-byte_at-eq-NUMBER_TAG.true) c.word_at.ensures
    ∙ ap parameter_of there in
    λ i. record { object = object i; name = name i; parameter = parameter i }

pub returns-else-byte_at-eq-NUMBER_TAG : goal.returns-else-byte_at-eq-NUMBER_TAG
returns-else-byte_at-eq-NUMBER_TAG c =
    let t = c.args.session.now in
    let there = sym (root_record_lem t c.requires) in
    let object = c.byte_at-object.ensures ∙ ap number_of there in
    let name = c.byte_at-name.ensures ∙ ap name_of there in
    let parameter = parameter_nil (record_at t (record_count t - 1)) (λ e. c.if-byte_at-eq-NUMBER_TAG.false (c.byte_at.ensures ∙ e)) ∙ ap parameter_of there in
    λ i. record { object = object i; name = name i; parameter = parameter i }
