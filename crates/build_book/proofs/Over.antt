-- What a table's items are, and what they hold, depends on its entries and kernel lines alone.
use Prim.Native.Nat.{ℕ, zero, suc, ◌-◌}
use mathlib.Core.Path.{◌≡◌, refl, sym, ap, ◌∙◌}
use mathlib.Core.Bool.{cond}
use mathlib.Core.List.{List}
use mathlib.Core.Option.{Option}
use lib.Dec.{leb}
use lib.ListN.{length, drop}
use Rattle.language.specs.Grammar.{Grammar, at, rule_at}
use Rattle.leftcorner.specs.Table.{EntryLine, Action, Table, entry_at, string_of, right_of, symbols_of, Goes}
use Rattle.leftcorner.specs.Construction.{KernelAt, Has, in_kernel, in_closure, MovedBy, moved, Carries, Asked, to_move, to_announce, to_pop}

module _ (g : Grammar) (t u : Table) (same : t.entries ≡ u.entries) where
  pub entry_over : (n : ℕ) → entry_at t n ≡ entry_at u n
  entry_over zero = refl
  entry_over (suc n) = ap (λ (l : List EntryLine). at l n) same

  pub symbols_over : (i : ℕ) → symbols_of g t i ≡ symbols_of g u i
  symbols_over i = ap (λ (o : Option EntryLine). cond (leb i (length g.rules)) (right_of (rule_at g i)) (string_of o)) (entry_over (i - length g.rules))

  pub goes_over : {i k X : ℕ} {β : List ℕ} → Goes g t i k X β → Goes g u i k X β
  goes_over {i = i} {k = k} h = record { before = sym (ap (drop k) (symbols_over i)) ∙ h.before; unmarked = h.unmarked }

  -- state p of the one has the kernel items of state q of the other
  module _ (q p : ℕ) (lines : (i k : ℕ) (σ : List ℕ) → KernelAt g t q i k σ → (τ : List ℕ) × KernelAt g u p i k τ) where
    pub has_over : {i k : ℕ} → Has g t q i k → Has g u p i k
    has_over {i = i} {k = k} (in_kernel {σ = σ} h) = in_kernel (lines i k σ h).1
    has_over (in_closure j h go e l) = in_closure j (has_over h) (goes_over go) e l

    pub moved_over : {X i n : ℕ} → MovedBy g t q X i n → MovedBy g u p X i n
    moved_over (moved h go) = moved (has_over h) (goes_over go)

  -- and their codes
  module _ (F : List ℕ → ℕ → ℕ → Type 0) (lines : (q i k : ℕ) (σ : List ℕ) → KernelAt g t q i k σ → KernelAt g u q i k σ) where
    pub carries_over : {q i k d : ℕ} → Carries g t F q i k d → Carries g u F q i k d
    carries_over {q = q} {i = i} {k = k} (in_kernel {σ = σ} h m) = in_kernel (lines q i k σ h) m
    carries_over (in_closure j h go e l f) = in_closure j (carries_over h) (goes_over go) e l f

    pub asked_over : {q X : ℕ} {x : Action} → Asked g t F q X x → Asked g u F q X x
    asked_over {q = q} (to_move m) = to_move (moved_over q q (λ i k σ h. (σ, lines q i k σ h)) m)
    asked_over (to_announce i e h f) = to_announce i e (carries_over h) f
    asked_over (to_pop k e h) = to_pop k (sym (entry_over k) ∙ e) (carries_over h)
