-- The closure of a state by its nonterminals: all rules of a nonterminal come in together, with the same lookaheads.
use Rattle.std.specs.Prelude.{ℕ, zero, ◌+◌, ◌*◌, ◌<◌, ◌≡◌, refl, List}
use Rattle.std.proofs.Common.{sym, subst}
use Rattle.std.proofs.Math.Option.{some}
use Rattle.language.specs.Grammar.{Grammar, Rule, rule_at}
use Rattle.language.specs.Sentence.{In}
use Rattle.leftcorner.specs.Table.{Table, Goes}
use Rattle.leftcorner.specs.Construction.{KernelAt, Has, in_kernel, in_closure, Carries}
use Rattle.fixpoint.specs.Flags.{On}

module _ (g : Grammar) (t : Table) where
  -- an item that q has stands before X, and not at its recognition point
  pub record Expanded (q X : ℕ) : Type 0 where
    pub item : ℕ
    pub dot : ℕ
    pub rest : List ℕ
    pub has : Has g t q item dot
    pub goes : Goes g t item dot X rest

  -- q has an item as a kernel item, or as a rule, dot 0, of an expanded symbol
  pub data HasBy (q i : ℕ) : ℕ → Type 0 where
    of_kernel : {k : ℕ} {σ : List ℕ} → KernelAt g t q i k σ → HasBy q i k
    of_rule : {r : Rule} → rule_at g i ≡ some r → Expanded q r.left → HasBy q i zero

  pub has_by : {q i k : ℕ} → Has g t q i k → HasBy q i k
  has_by (in_kernel h) = of_kernel h
  has_by {q = q} (in_closure {i = i} {k = k} {X = X} j {β = β} h go e l) =
      of_rule e (record { item = i; dot = k; rest = β; has = h; goes = subst (λ (Y : ℕ). Goes g t i k Y β) (sym l) go })

  pub by_has : {q i k : ℕ} → HasBy q i k → Has g t q i k
  by_has (of_kernel h) = in_kernel h
  by_has {i = i} (of_rule e x) = in_closure i x.has x.goes e refl

  module _ (F : List ℕ → ℕ → ℕ → Type 0) where
    -- code c can follow X in q
    pub record Follows (q X c : ℕ) : Type 0 where
      pub item : ℕ
      pub dot : ℕ
      pub code : ℕ
      pub rest : List ℕ
      pub carries : Carries g t F q item dot code
      pub goes : Goes g t item dot X rest
      pub first : F rest code c

    pub data CarriesBy (q i : ℕ) : ℕ → ℕ → Type 0 where
      of_kernel : {k d : ℕ} {σ : List ℕ} → KernelAt g t q i k σ → In d σ → CarriesBy q i k d
      of_rule : {r : Rule} {d : ℕ} → rule_at g i ≡ some r → Follows q r.left d → CarriesBy q i zero d

    pub carries_by : {q i k d : ℕ} → Carries g t F q i k d → CarriesBy q i k d
    carries_by (in_kernel h m) = of_kernel h m
    carries_by (in_closure {i = i} {k = k} {d = d} {X = X} j {β = β} h go e l f) =
        of_rule e (record { item = i; dot = k; code = d; rest = β; carries = h; goes = subst (λ (Y : ℕ). Goes g t i k Y β) (sym l) go; first = f })

    pub by_carries : {q i k d : ℕ} → CarriesBy q i k d → Carries g t F q i k d
    by_carries (of_kernel h m) = in_kernel h m
    by_carries {i = i} (of_rule e x) = in_closure i x.carries x.goes e refl x.first

    -- flags of what is expanded in q, by nonterminal - 64, and of what can follow it, 64 flags each
    pub record HoldsClosure (q : ℕ) (present follow : List ℕ) : Type 0 where
      pub present_only : (b : ℕ) → b < 64 → On present b → Expanded q (64 + b)
      pub present_every : (b : ℕ) → b < 64 → Expanded q (64 + b) → On present b
      pub follow_only : (b c : ℕ) → b < 64 → c < 64 → On follow (b * 64 + c) → Follows q (64 + b) c
      pub follow_every : (b c : ℕ) → b < 64 → c < 64 → Follows q (64 + b) c → On follow (b * 64 + c)
