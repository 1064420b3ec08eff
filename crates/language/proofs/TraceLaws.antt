-- The trace of a node whose forest is in two parts.
use Prim.Native.Nat.{ℕ, suc}
use mathlib.Core.Path.{◌≡◌, refl, sym, ap, ap₂, ◌∙◌}
use mathlib.Core.List.{List, [], ◌∷◌, ◌++◌}
use mathlib.Core.Option.{Option, some}
use lib.ListN.{length, take, drop}
use lib.Seq.{take-append_seam, drop-append_seam}
use Rattle.language.specs.Grammar.{Grammar, Rule, rule_at}
use Rattle.language.specs.Derivation.{Forest, node, nil, cons, IsForest}
use Rattle.language.proofs.Forests.{◌⧺◌}
use Rattle.language.specs.Trace.{Event, announced, closed, flat, closings, weave, trace, traces}
use Rattle.language.proofs.Forests.{◌⧺◌}

module _ (g : Grammar) where
  traces-⧺ : (F G : Forest) → traces g (F ⧺ G) ≡ traces g F ++ traces g G
  traces-⧺ nil G = refl
  traces-⧺ (cons T F) G = ap (λ (l : List (List Event)). trace g T ∷ l) (traces-⧺ F G)

  traces-length : (F : Forest) (α : List ℕ) → IsForest g F α → length (traces g F) ≡ length α
  traces-length nil [] h = refl
  traces-length nil (X ∷ α) h = absurd h
  traces-length (cons T F) [] h = absurd h
  traces-length (cons T F) (X ∷ α) h = ap suc (traces-length F α h.1)

  take-traces : (F G : Forest) (α : List ℕ) → IsForest g F α → take (length α) (traces g (F ⧺ G)) ≡ traces g F
  take-traces F G α h =
      ap₂ (λ (n : ℕ) (l : List (List Event)). take n l) (sym (traces-length F α h)) (traces-⧺ F G) ∙ take-append_seam (traces g F) (traces g G)

  drop-traces : (F G : Forest) (α : List ℕ) → IsForest g F α → drop (length α) (traces g (F ⧺ G)) ≡ traces g G
  drop-traces F G α h =
      ap₂ (λ (n : ℕ) (l : List (List Event)). drop n l) (sym (traces-length F α h)) (traces-⧺ F G) ∙ drop-append_seam (traces g F) (traces g G)

  pub closings_cons : (F G : Forest) (γ : List ℕ) (γs : List (List ℕ)) → IsForest g F γ
      → closings (γ ∷ γs) (traces g (F ⧺ G)) ≡ flat (traces g F) ++ closed ∷ closings γs (traces g G)
  closings_cons F G γ γs h =
      ap₂ (λ (l n : List (List Event)). flat l ++ closed ∷ closings γs n) (take-traces F G γ h) (drop-traces F G γ h)

  pub trace-node : (i : ℕ) (r : Rule) (F G : Forest) → rule_at g i ≡ some r → IsForest g F r.before
      → trace g (node i (F ⧺ G)) ≡ flat (traces g F) ++ announced i ∷ closings r.groups (traces g G)
  trace-node i r F G e h =
      ap (λ (o : Option Rule). weave o i (traces g (F ⧺ G))) e
      ∙ ap₂ (λ (l n : List (List Event)). flat l ++ announced i ∷ closings r.groups n) (take-traces F G r.before h) (drop-traces F G r.before h)
