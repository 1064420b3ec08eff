-- The fields of a rule line are read with a budget, one more than the book's length. It suffices for every line: a larger one reads
-- the same.
use Prim.Native.Nat.{ℕ, zero, suc, ◌+◌, ◌≤◌, ◌<◌}
use mathlib.Core.Path.{◌≡◌, refl, ap}
use mathlib.Core.List.{List, [], ◌∷◌}
use mathlib.Core.Bool.{Bool, true, false, cond}
use native.Mathlib.Omega.{arith}
use lib.ListN.{length}
use Rattle.text.specs.declared.Cursor.{Cursor}
use Rattle.text.specs.declared.Field.{Field}
use Rattle.text.specs.declared.Field.TheVariants as field
use Rattle.text.specs.Field.{field_at}
use Rattle.text.proofs.OnwardLaws.{onward}
use Rattle.grammar_rule.specs.Parts.{symbol, mark_of, parts, broken, after, on_part, parts_from, parts_at}

module _ (s : List ℕ) where
  -- two budgets that reach past the book's end from c on
  parts_enough : (k m : ℕ) (c : Cursor) → 1 ≤ k → 1 ≤ m → length s < c.at + k → length s < c.at + m → parts_from k s c ≡ parts_from m s c
  unfolding parts_from
  parts_enough zero m c a b h l = absurd (omega arith)
  parts_enough (suc k) zero c a b h l = absurd (omega arith)
  parts_enough (suc k) (suc m) c a b h l = go c.ended (field_at s c) refl (λ d x y z w. parts_enough k m d x y z w)
    where
      Same : Cursor → Type 0
      Same d = 1 ≤ k → 1 ≤ m → length s < d.at + k → length s < d.at + m → parts_from k s d ≡ parts_from m s d

      further : (d : Cursor) → c.at < d.at → d.at ≤ length s → Same d → parts_from k s d ≡ parts_from m s d
      further d p q r = r (omega arith) (omega arith) (omega arith) (omega arith)

      go : (t : Bool) (f : Field) → field_at s c ≡ f → ((d : Cursor) → Same d)
          → cond t (parts [] c.at) (on_part f (λ p d. after (p ∷ []) (parts_from k s d)) broken) ≡ cond t (parts [] c.at) (on_part f (λ p d. after (p ∷ []) (parts_from m s d)) broken)
      go true f e r = refl
      go false (field.Number v d) e r = let o = onward s c (field.Number v d) e in ap (after (symbol v ∷ [])) (further d o.0 o.1 (r d))
      go false (field.Mark b d) e r = let o = onward s c (field.Mark b d) e in ap (after (mark_of b ∷ [])) (further d o.0 o.1 (r d))
      go false (field.Letter b d) e r = refl
      go false field.Broken e r = refl

  pub budget_suffices : (c : Cursor) (k : ℕ) → length s < k → parts_from k s c ≡ parts_at s c
  budget_suffices c k h = parts_enough k (suc (length s)) c (omega (arith, h)) (omega arith) (omega (arith, h)) (omega arith)
