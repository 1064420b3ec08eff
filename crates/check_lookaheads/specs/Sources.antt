-- Reply 8 by the state that an inclusion comes from: document 01 asks them of the state whose lookaheads are too few ("narrow").
use Rattle.std.specs.Prelude.{ℕ, zero, suc, ◌≤◌, ◌<◌, ◌≡◌, List, ◌∷◌, ◌++◌, length}
use Rattle.std.proofs.Common.{arith}
use Rattle.std.proofs.Math.Option.{some}
use Rattle.language.specs.Grammar.{Grammar, Rule, rule_at, concat}
use Rattle.language.specs.Sentence.{In}
use Rattle.leftcorner.specs.Table.{Table, Action, next_state, Goes}
use Rattle.leftcorner.specs.Construction.{entry_item, EntryAt, KernelAt, ActionAt, Carries, WellFormed, LookaheadsMeet}
use Rattle.inclusions.specs.Included.{by_move, by_group, Includes}

module _ (g : Grammar) (t : Table) where
  -- "The goal's entry context includes 0."
  pub record GoalMeets (q : ℕ) : Type 0 where
    pub of_goal : (γ σ : List ℕ) → EntryAt g t 1 q γ → KernelAt g t q (entry_item g t 1) zero σ → In 0 σ

module _ (g : Grammar) (t : Table) (F : List ℕ → ℕ → ℕ → Type 0) where
  -- what the items of p ask of the lookaheads of q
  pub record LookaheadsFrom (p q : ℕ) : Type 0 where
    pub of_move : (X i k d : ℕ) (β σ : List ℕ) (x : Action) → ActionAt g t p X x → next_state x ≡ some q → Carries g t F p i k d → Goes g t i k X β
        → KernelAt g t q i (suc k) σ → In d σ
    pub of_group : (k i d c : ℕ) (γ σ : List ℕ) (r : Rule) (δs εs : List (List ℕ)) → EntryAt g t k q γ → rule_at g i ≡ some r → r.groups ≡ δs ++ γ ∷ εs
        → Carries g t F p i (length r.before) d → F (concat εs) d c → KernelAt g t q (entry_item g t k) zero σ → In c σ

  pub included_in : {p q i k c : ℕ} → LookaheadsFrom p q → Includes g t F p q i k c → (σ : List ℕ) → KernelAt g t q i k σ → In c σ
  included_in L (by_move {i = i} {k = k} {c = c} {X = X} {β = β} l car go) σ m = L.of_move X i k c β σ l.action l.line l.next car go m
  included_in L (by_group {i = i} {c = c} {d = d} e {γ = γ} {r = r} δs εs ent er split car f) σ m = L.of_group e i d c γ σ r δs εs ent er split car f m

  -- the same for the items of the states 1 .. n - 1
  pub record LookaheadsBelow (n q : ℕ) : Type 0 where
    pub from : (p : ℕ) → 1 ≤ p → p < n → LookaheadsFrom p q

  -- one of these states asks of q's item i with dot k the lookahead c
  pub record IncludesBelow (n q i k c : ℕ) : Type 0 where
    pub state : ℕ
    pub above : 1 ≤ state
    pub below : state < n
    pub includes : Includes g t F state q i k c

  -- states outside 1 .. states have no items
  carries_state : WellFormed g t → {p i k d : ℕ} → Carries g t F p i k d → (1 ≤ p) × (p ≤ t.states)
  carries_state W {p} {i} {k} (Carries.in_kernel {σ = σ} h m) = W.kernel_state p i k σ h
  carries_state W (Carries.in_closure j h go e l f) = carries_state W h

  -- reply 8 at q, source by source
  pub lookaheads_all : WellFormed g t → {n : ℕ} → t.states < n → (q : ℕ) → LookaheadsBelow n q → GoalMeets g t q → LookaheadsMeet g t F q
  lookaheads_all W {n} above q all goal = record {
    of_move = λ p X i k d β σ x a nx h. (at p h).of_move X i k d β σ x a nx h;
    of_group = λ k p i d c γ σ r δs εs e er eg h. (at p h).of_group k i d c γ σ r δs εs e er eg h;
    of_goal = goal.of_goal;
  }
    where
      at : (p : ℕ) {i k d : ℕ} → Carries g t F p i k d → LookaheadsFrom p q
      at p h = let s = carries_state W h in all.from p s.0 (omega (arith, s.1, above))

  pub lookaheads_below : (n q : ℕ) → LookaheadsMeet g t F q → LookaheadsBelow n q
  lookaheads_below n q m = record {
    from = λ p a b. record {
      of_move = λ X i k d β σ x. m.of_move p X i k d β σ x;
      of_group = λ k i d c γ σ r δs εs. m.of_group k p i d c γ σ r δs εs;
    };
  }

  pub lookaheads_goal : (q : ℕ) → LookaheadsMeet g t F q → GoalMeets g t q
  lookaheads_goal q m = record { of_goal = m.of_goal }
