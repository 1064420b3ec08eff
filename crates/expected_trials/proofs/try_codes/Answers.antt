use mathlib.Core.Path.{refl, ◌∙◌}
use Prim.Native.Nat.{suc, ◌<◌}
use native.Mathlib.Omega.{arith}
use lib.ListN.{length}
use Rattle.expected_trials.proofs.CodeLaws.{told_is, noting_start, noting_misfit, noting_fits, noting_same, noting_outgrown, noting_full, noting_end, short_told}
use Rattle.expected_trials.proofs.try_codes.Goals as goal
use Rattle.expected_trials.proofs.try_codes.Goals.{in-Fits+else-codes-count, in-Misfit}

pub loop-code-init : goal.loop-code-init
loop-code-init c = (refl, noting_start _ _ _ _ c.requires.2)

pub returns-then-codes-count : goal.returns-then-codes-count
returns-then-codes-count c =
    let l = c.loop-code in
    let k = c.args in
    let some : l.code < suc k.machine.now.terminals = omega (arith, c.loop-code-test.true, c.requires.1) in
    let same = told_is k.machine.now k.place l.auto.stack l.auto.listing l.invariant.0 l.code c.try_code.ensures.value in
    short_told (length k.codes.now) _ k.place l.auto.codes
    (noting_full _ _ _ _ l.invariant.1 some (same ∙ c.in-Fits.is) (omega (arith, c.if-codes-count.true, l.auto.codes))) c.refuse_list.ensures

pub returns-in-Outgrown : goal.returns-in-Outgrown
returns-in-Outgrown c =
    let l = c.loop-code in
    let k = c.args in
    let some : l.code < suc k.machine.now.terminals = omega (arith, c.loop-code-test.true, c.requires.1) in
    let same = told_is k.machine.now k.place l.auto.stack l.auto.listing l.invariant.0 l.code c.try_code.ensures.value in
    short_told (length k.codes.now) _ k.place l.auto.codes
    (noting_outgrown _ _ _ _ l.invariant.1 some (same ∙ c.in-Outgrown.is)) c.refuse_list-in-Outgrown.ensures

pub loop-code-preserved : goal.loop-code-preserved
loop-code-preserved c =
    let l = c.loop-code in
    let k = c.args in
    let some : l.code < suc k.machine.now.terminals = omega (arith, c.loop-code-test.true, c.requires.1) in
    let same = told_is k.machine.now k.place l.auto.stack l.auto.listing l.invariant.0 l.code c.try_code.ensures.value in (
      c.try_code.ensures.trial_unchanged ∙ l.invariant.0,
      elim c.match-try_code.branch [
        | in-Fits+else-codes-count w ↦
            noting_same _ _ _ _ w.codes-is w.count-is (noting_fits _ _ _ _ l.invariant.1 some (same ∙ w.in-Fits.is) (omega (arith, w.if-codes-count.false, l.auto.codes)))
        | in-Misfit w ↦ noting_same _ _ _ _ w.codes-is w.count-is (noting_misfit _ _ _ _ l.invariant.1 some (same ∙ w.in-Misfit.is))
      ],
    )

pub returns : goal.returns
returns c =
    noting_end _ _ _ _ c.loop-code.invariant.1 (omega (arith, c.loop-code-test.false, c.loop-code.auto.code-end, c.requires.1))
