use borrow.Enum.Refused.{opened}
use Rattle.text.proofs.ElseLaws.{else_number}
use Rattle.digits.proofs.CapLaws.{field_exact, field_leads}
use Rattle.table_lines.proofs.TallyLaws.{tally_none, count_add}
use Rattle.table_lines.proofs.LineLaws.{going_start, going_last, going_leads, going_none, going_over, going_broken, going_on}
use Rattle.table_lines.specs.declared.Tally.{Tally}
use Rattle.table_lines.specs.Line.{TextLine}
use mathlib.Core.Path.{◌≡◌, refl, sym, ap, ◌∙◌}
use Prim.Native.Nat.{ℕ, ◌+◌, ◌-◌}
use native.Mathlib.Omega.{arith}
use lib.ListN.{length, set}
use Rattle.table_lines.proofs.read_numbers.Goals as goal

by-clause : {A B : Type 0} → A × B → record { value : A; stores : B }
by-clause h = record { value = h.0; stores = h.1 }

pub loop-k-init : goal.loop-k-init
loop-k-init c =
    let n = length c.args.s.now in
    let e : n ≡ n - 0 = omega arith in
    (refl, rw (← e) (going_start _ _ _ _ _ _ _ tally_none))

pub returns-then-c : goal.returns-then-c
returns-then-c c = by-clause (going_over c.loop-k.invariant.1 (omega arith) c.if-c.true)

pub returns-in_default : goal.returns-in_default
returns-in_default c = by-clause (going_broken c.loop-k.invariant.1 (omega arith) c.if-c.false (else_number {A = TextLine} c.read_field.ensures (opened c.in_default.in_default-own.keys2)))

pub keeps_rising-rising-requires : goal.keeps_rising-rising-requires
keeps_rising-rising-requires c = let g = c.loop-k.invariant.1 in
    let f = sym c.read_field.ensures ∙ c.in-Number.is in
    record { last_value = (going_last g, field_exact _ _ f); leads = (going_leads g, field_leads _ _ f) }

pub loop-k-preserved : goal.loop-k-preserved
loop-k-preserved c =
    let l = c.loop-k in
    let n = length c.args.s.now in
    let e : n - l.k - 1 ≡ n - (l.k + 1) = omega arith in (
      omega (arith, l.invariant.0, ap (λ (q : Tally). q.count) c.add_number-p.ensures, count_add l.p c.in-Number.v c.keeps_rising-rising.result),
      rw (← e) (going_on l.invariant.1 (omega arith) c.if-c.false (sym c.read_field.ensures ∙ c.in-Number.is) c.keeps_rising-rising.ensures c.add_number-p.ensures
          (c.store_number.ensures ∙ ap (λ (i : ℕ). set l.numbers i c.in-Number.v) (sym l.invariant.0))),
    )

pub returns : goal.returns
returns c = by-clause (going_none c.loop-k.invariant.1 (omega arith))
