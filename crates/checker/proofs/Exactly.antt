-- Books are accepted exactly when they meet the construction (specs/Exactly.antt), proved.
use Prim.Native.Nat.{ℕ}
use native.Mathlib.Omega.{arith}
use mathlib.Core.Path.{◌≡◌, refl, ap, ◌∙◌}
use mathlib.Core.List.{List}
use Rattle.language.specs.Grammar.{Grammar}
use Rattle.language.proofs.FirstLaws.{right_productive}
use Rattle.language.specs.WellFormed.{declared_of}
use Rattle.std.specs.Prelude.{◌↔◌}
use Rattle.leftcorner.specs.Table.{Table}
use Rattle.leftcorner.specs.Construction.{Meets}
use Rattle.reply.specs.declared.Reply.{Reply}
use Rattle.reply.specs.declared.Reply.TheVariants.{Accepted, Refused}
use Rattle.table.specs.Book.{Reading, whole, rejected, tables_of}
use Rattle.table.specs.Memory.{reply_of, as_reply}
use Rattle.table_facts.specs.Sound.{Sound}
use Rattle.table_facts.proofs.Sound.{tables_sound}
use Rattle.check_memory.specs.Accepts.{table_verdict}
use Rattle.check_memory.proofs.AcceptLaws.{accepted_zero, accepted_exactly}
use Rattle.checker.specs.Exactly.{Exactly}
use Rattle.checker.specs.Checked.{by_reply, checked, checked_of, verdict_of, Accepts}

-- a table that was read is accepted exactly when it meets the construction
verdict_exactly : {g : Grammar} {t : Table} → Sound g t → (table_verdict g t ≡ Accepted 0) ↔ Meets g t
verdict_exactly {g} {t} S =
    accepted_exactly g S.productive (right_productive g S.formed S.productive) (declared_of S.formed) t S.fits.form

-- ---- the books that are accepted were read, and their verdict is 0
checked-whole : {g : Grammar} {t : Table} (x : Reading) → checked x ≡ whole g t → (x ≡ whole g t) × (table_verdict g t ≡ Accepted 0)
checked-whole {g} {t} (rejected why) e = let z : ◌≡◌ {A = ℕ} 0 1 = cc in absurd (omega arith)
checked-whole {g} {t} (whole h u) e = go (table_verdict h u) refl e
  where
    same : {n : ℕ} → whole h u ≡ whole g t → table_verdict h u ≡ Accepted n → table_verdict g t ≡ Accepted 0
    same {n} q f =
        let a : h ≡ g = cc in
        let b : u ≡ t = cc in
        rw (← a, ← b) (f ∙ ap Accepted (accepted_zero h u f))

    go : (v : Reply) → table_verdict h u ≡ v → by_reply h u v ≡ whole g t → (whole h u ≡ whole g t) × (table_verdict g t ≡ Accepted 0)
    go (Accepted n) f q = (q, same q f)
    go (Refused why) f q = let z : ◌≡◌ {A = ℕ} 0 1 = cc in absurd (omega arith)

module _ (gs s : List ℕ) where
  -- what a table that was accepted has besides: the limits, and its grammar's
  pub accepted_sound : {g : Grammar} {t : Table} → checked_of gs s ≡ whole g t → Sound g t
  unfolding checked_of
  accepted_sound e = tables_sound gs s (checked-whole (tables_of gs s) e).0

  pub accepted : {g : Grammar} {t : Table} → checked_of gs s ≡ whole g t → Accepts gs s g t
  unfolding checked_of
  accepted e =
      let h = checked-whole (tables_of gs s) e in
      let S = tables_sound gs s h.0 in
      record { reads = h.0; productive = S.productive; reachable = S.reachable; meets = (verdict_exactly S).0 h.1 }

  pub accepts : {g : Grammar} {t : Table} → Accepts gs s g t → checked_of gs s ≡ whole g t
  unfolding checked_of
  accepts {g} {t} A = ap checked A.reads ∙ ap (by_reply g t) ((verdict_exactly (tables_sound gs s A.reads)).1 A.meets)

pub exactly : Exactly
unfolding verdict_of
exactly gs s = (λ e. to (checked_of gs s) refl e, λ h. ap (λ (x : Reading). as_reply (reply_of x)) (accepts gs s h.2))
  where
    to : (x : Reading) → checked_of gs s ≡ x → as_reply (reply_of x) ≡ Accepted 0 → (g : Grammar) × (t : Table) × Accepts gs s g t
    to (whole g t) q e = (g, t, accepted gs s q)
    to (rejected why) q e = let z : ◌≡◌ {A = ℕ} 0 1 = cc in absurd (omega arith)
