-- The rules as clauses of a state's closure, as they stand in memory. Flags of nonterminals stand at nonterminal - 64.
use Rattle.std.specs.Prelude.{ℕ, ◌+◌, ◌*◌, ◌≤◌, ◌<◌, ◌≡◌, ◌⊎◌, List}
use Rattle.items.specs.Layout.{left_at}
use Rattle.fixpoint.specs.Flags.{On}
use Rattle.fixpoint.specs.Least.{Clauses, Met}
use Rattle.closure.specs.Kernel.{BeforeNonterminal}

-- rule i is one of nonterminal 64 + a and begins, before its recognition point, with nonterminal 64 + b
pub record Expands (m : List ℕ) (rules i a b : ℕ) : Type 0 where
  pub above : 1 ≤ i
  pub below : i ≤ rules
  pub left : left_at m i ≡ 64 + a
  pub stands : BeforeNonterminal m i 0 b

pub record Expansion : Type 0 where
  pub rule : ℕ
  pub left : ℕ
  pub first : ℕ

-- what is expanded by a rule, once its left side is
abbrev pub expansions : List ℕ → ℕ → Clauses Expansion ℕ
expansions m rules = record {
  ok = λ s. Expands m rules s.rule s.left s.first;
  needs = λ s x. x ≡ s.left;
  head = λ s. s.first;
}

-- `next` can begin what follows the first symbol of rule i, where `code` can follow the rule
abbrev pub Gives : ℕ → List ℕ → List ℕ → ℕ → ℕ → ℕ → Type 0
Gives codes starts through i code next = ((next < codes) × On starts (i * 64 + next)) ⊎ (On through i × (next ≡ code))

pub record Following : Type 0 where
  pub rule : ℕ
  pub left : ℕ
  pub first : ℕ
  pub code : ℕ
  pub next : ℕ

-- what can follow a rule's first symbol, once something can follow its left side
abbrev pub followings : List ℕ → ℕ → ℕ → List ℕ → List ℕ → Clauses Following ℕ
followings m rules codes starts through = record {
  ok = λ s. Expands m rules s.rule s.left s.first × (s.code < codes) × Gives codes starts through s.rule s.code s.next;
  needs = λ s y. y ≡ s.left * 64 + s.code;
  head = λ s. s.first * 64 + s.next;
}

-- the left side of rule i is a nonterminal that is flagged
pub record LeftIn (m : List ℕ) (i : ℕ) (present : List ℕ) : Type 0 where
  pub left : ℕ
  pub is : left_at m i ≡ 64 + left
  pub on : On present left

-- r is the nonterminal, less 64, that stands behind item i's dot 0, or 64 where none does
pub record FirstIs (m : List ℕ) (i r : ℕ) : Type 0 where
  pub found : r < 64 → BeforeNonterminal m i 0 r
  pub missing : 64 ≤ r → (b : ℕ) → BeforeNonterminal m i 0 b → ⊥

-- code c can follow the first symbol of rule i, where something can follow its left side
abbrev pub Fires : List ℕ → List ℕ → List ℕ → ℕ → ℕ → ℕ → Type 0
Fires starts through follow i a c = On starts (i * 64 + c) ⊎ (On through i × On follow (a * 64 + c))

-- what can be followed is expanded, and what a rule expands is so too
pub record Covered (m : List ℕ) (rules codes : ℕ) (present follow : List ℕ) : Type 0 where
  pub closed : (s : Expansion) → Met (expansions m rules) (On present) s
  pub seeded : (b c : ℕ) → c < codes → On follow (b * 64 + c) → On present b
