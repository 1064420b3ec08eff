-- The bytes of a field and the byte that ends it.
use Prim.Native.Nat.{ℕ, ◌+◌}
use mathlib.Core.Path.{◌≡◌, refl, sym, ap, subst, ◌∙◌}
use mathlib.Core.List.{List, [], ◌∷◌, ◌++◌}
use mathlib.Core.Bool.{Bool, true, false, cond}
use native.Mathlib.Omega.{arith}
use borrow.Author.Tests.{eqb-true}
use lib.Dec.{eqb}
use lib.ListN.{length, drop}
use lib.Seq.{drop-drop, drop-append_seam}
use Rattle.text.specs.declared.Cursor.{Cursor}
use Rattle.text.specs.declared.End.{End}
use Rattle.text.specs.declared.End.TheVariants.{Past, Missing}
use Rattle.text.specs.Field.{end_of}
use Rattle.text.specs.Promise.{ending, Spelled}

-- ---- bytes l at `at` that begin with w and the byte that ends a field; d is the cursor past it
pub record Spells (l : List ℕ) (at : ℕ) (w : List ℕ) (d : Cursor) : Type 0 where
  pub rest : List ℕ
  pub bytes : l ≡ w ++ ending d.ended ∷ rest
  pub place : d.at ≡ at + length w + 1

-- after bytes w there is only the end
pub spells_behind : (w : List ℕ) {l : List ℕ} {from at : ℕ} {d : Cursor} → at ≡ from + length w → Spells l at [] d → Spells (w ++ l) from w d
spells_behind w e h = record { rest = h.rest; bytes = ap (λ (l : List ℕ). w ++ l) h.bytes; place = omega (arith, e, h.place) }

pub spells_as : {l m w x : List ℕ} {at : ℕ} {d : Cursor} → l ≡ m → w ≡ x → Spells l at w d → Spells m at x d
spells_as {l} {x = x} {at} {d} e f h = subst (λ (m : List ℕ). Spells m at x d) e (subst (λ (x : List ℕ). Spells l at x d) f h)

abbrev EndSpells : List ℕ → ℕ → End → Type 0
EndSpells l at (Past d) = Spells l at [] d
EndSpells l at Missing = Unit {0}

pub end_spells : (l : List ℕ) (at : ℕ) {d : Cursor} → end_of l at ≡ Past d → Spells l at [] d
unfolding end_of
end_spells l at e = subst (EndSpells l at) e (go l)
  where
    go : (l : List ℕ) → EndSpells l at (end_of l at)
    go [] = tt
    go (b ∷ l) = by (eqb b 44) refl (eqb b 10) refl
      where
        by : (t : Bool) → eqb b 44 ≡ t → (u : Bool) → eqb b 10 ≡ u
            → EndSpells (b ∷ l) at (cond t (Past (record { at = at + 1; ended = false })) (cond u (Past (record { at = at + 1; ended = true })) Missing))
        by true p u q = record { rest = l; bytes = ap (λ (x : ℕ). x ∷ l) (eqb-true b 44 p); place = omega arith }
        by false p true q = record { rest = l; bytes = ap (λ (x : ℕ). x ∷ l) (eqb-true b 10 q); place = omega arith }
        by false p false q = tt

-- ---- what follows bytes w and one byte more
pub drop_past : (s w rest : List ℕ) (at n b : ℕ) → drop at s ≡ w ++ b ∷ rest → n ≡ at + length w + 1 → drop n s ≡ rest
drop_past s w rest at n b e place =
    ap (λ (n : ℕ). drop n s) place
    ∙ (sym (drop-drop 1 (at + length w) s) ∙ (ap (drop 1) (sym (drop-drop (length w) at s) ∙ (ap (drop (length w)) e ∙ drop-append_seam w _))))

-- ---- the same, at a cursor
module _ (s : List ℕ) (c : Cursor) where
  pub spelled : {w : List ℕ} {d : Cursor} → c.ended ≡ false → Spells (drop c.at s) c.at w d → Spelled s c w d
  spelled {w} {d} e h = record {
    going = e;
    bytes = h.bytes ∙ ap (λ (l : List ℕ). w ++ ending d.ended ∷ l) (sym (drop_past s w h.rest c.at d.at _ h.bytes h.place));
    place = h.place;
  }
