-- first(β, {d}) by flags: those of the symbols that derive the empty string, and for each symbol those of the codes that can begin it.
use Rattle.std.specs.Prelude.{ℕ, ◌+◌, ◌*◌, ◌<◌, ◌≡◌, refl, ◌⊎◌, List, [], ◌∷◌}
use Rattle.std.proofs.Common.{inl, inr}
use Rattle.fixpoint.specs.Flags.{On}

module _ (codes : ℕ) (nul fst : List ℕ) where
  -- "first(β, σ) holds the terminals, or 0, that can begin a string derived from β followed by a member of σ", by flags at
  -- symbol * 64 + code; codes are below `codes`
  pub data FirstBy : List ℕ → ℕ → ℕ → Type 0 where
    follows : {d : ℕ} → FirstBy [] d d
    begins : {X d c : ℕ} {β : List ℕ} → c < codes → On fst (X * 64 + c) → FirstBy (X ∷ β) d c
    skips : {X d c : ℕ} {β : List ℕ} → On nul X → FirstBy β d c → FirstBy (X ∷ β) d c

  pub first_nil : {d c : ℕ} → FirstBy [] d c → c ≡ d
  first_nil follows = refl

  pub first_cons : {X d c : ℕ} {β : List ℕ} → FirstBy (X ∷ β) d c → ((c < codes) × On fst (X * 64 + c)) ⊎ (On nul X × FirstBy β d c)
  first_cons (begins l on) = inl (l, on)
  first_cons (skips on f) = inr (on, f)

  pub first_low : {β : List ℕ} {d c : ℕ} → d < codes → FirstBy β d c → c < codes
  first_low l follows = l
  first_low l (begins lc on) = lc
  first_low l (skips on f) = first_low l f

-- c can begin a string derived from β, whatever follows; y is c's place in a row of flags from `at` on
pub record BeginsAt (codes : ℕ) (nul fst : List ℕ) (β : List ℕ) (at y : ℕ) : Type 0 where
  pub code : ℕ
  pub low : code < codes
  pub is : y ≡ at + code
  pub first : (d : ℕ) → FirstBy codes nul fst β d code
