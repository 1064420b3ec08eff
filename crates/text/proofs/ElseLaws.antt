-- The arms of `let .. else` on a field.
use Prim.Native.Nat.{ℕ}
use mathlib.Core.Path.{◌≡◌, refl, subst}
use mathlib.Core.List.{[], ◌∷◌}
use mathlib.Core.Logic.{⊎_elim}
use native.Mathlib.Omega.{arith}
use types.Run.{OneOf}
use denote.Enum.Declared.{tag_of}
use Rattle.text.specs.declared.Cursor.{Cursor}
use Rattle.text.specs.declared.Field.{Field}
use Rattle.text.specs.declared.Field.TheVariants as field
use Rattle.text.specs.Field.{on_number, on_letter}
use Rattle.text.specs.contracts.Field.{the_type}

-- no number is one of three others
none : {k l m n : ℕ} → (n ≡ k → ⊥) → (n ≡ l → ⊥) → (n ≡ m → ⊥) → OneOf (k ∷ l ∷ m ∷ []) n → ⊥
none f g h o = ⊎_elim f (λ p. ⊎_elim g h p) o

module _ {A : Type 0} {r f : Field} (e : r ≡ f) where
  -- r is no number
  pub else_number : OneOf (1 ∷ 2 ∷ 3 ∷ []) (tag_of the_type r) → (x : ℕ → Cursor → A) (y : A) → on_number f x y ≡ y
  else_number o x y = subst (λ (g : Field). on_number g x y ≡ y) e (by r o)
    where
      by : (r : Field) → OneOf (1 ∷ 2 ∷ 3 ∷ []) (tag_of the_type r) → on_number r x y ≡ y
      by (field.Number v c) o = absurd (none (λ e. omega arith) (λ e. omega arith) (λ e. omega arith) o)
      by (field.Mark b c) o = refl
      by (field.Letter b c) o = refl
      by field.Broken o = refl

  -- r is no letter
  pub else_letter : OneOf (0 ∷ 1 ∷ 3 ∷ []) (tag_of the_type r) → (x : ℕ → Cursor → A) (y : A) → on_letter f x y ≡ y
  else_letter o x y = subst (λ (g : Field). on_letter g x y ≡ y) e (by r o)
    where
      by : (r : Field) → OneOf (0 ∷ 1 ∷ 3 ∷ []) (tag_of the_type r) → on_letter r x y ≡ y
      by (field.Letter b c) o = absurd (none (λ e. omega arith) (λ e. omega arith) (λ e. omega arith) o)
      by (field.Mark b c) o = refl
      by (field.Number b c) o = refl
      by field.Broken o = refl

-- what holds of each way out holds of what is done with a field
module _ {A : Type 0} (P : A → Type 0) {x : ℕ → Cursor → A} {y : A} where
  pub all_number : (f : Field) → ((v : ℕ) (c : Cursor) → f ≡ field.Number v c → P (x v c)) → P y → P (on_number f x y)
  all_number (field.Number v c) h k = h v c refl
  all_number (field.Mark b c) h k = k
  all_number (field.Letter b c) h k = k
  all_number field.Broken h k = k

  pub all_letter : (f : Field) → ((b : ℕ) (c : Cursor) → f ≡ field.Letter b c → P (x b c)) → P y → P (on_letter f x y)
  all_letter (field.Letter b c) h k = h b c refl
  all_letter (field.Mark b c) h k = k
  all_letter (field.Number v c) h k = k
  all_letter field.Broken h k = k
