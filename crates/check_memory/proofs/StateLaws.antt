-- What the parts of the checker need of memory.
use Prim.Native.Nat.{ℕ, ◌+◌, ◌≤◌, ◌<◌}
use native.Mathlib.Omega.{arith}
use mathlib.Core.Path.{◌≡◌}
use mathlib.Core.List.{List}
use lib.ListN.{length}
use Rattle.language.specs.Grammar.{Grammar}
use Rattle.leftcorner.specs.Table.{Table}
use Rattle.closure.specs.InMemory.{InMemory}
use Rattle.closure.proofs.UseLaws.{in_memory}
use Rattle.moves.specs.Moves.{Readable, Lined}
use Rattle.moves.specs.Flags.{HoldsPresent, HoldsMoves}
use Rattle.check_items.specs.Items.{HeldAt}
use Rattle.item_first.specs.Rows.{FirstRoom}
use Rattle.check_memory.specs.Given.{TableRoom, Computed, Given}

pub at_most_sum : (a b : ℕ) → a ≤ a + b
at_most_sum a b = omega arith

pub in_room : {q n m : ℕ} → q < n → n ≤ m → q < m
in_room a b = omega (arith, a, b)

module _ {items entries kernels lookaheads kinds values gotos named : List ℕ} {count rules strings lines : ℕ}
    (S : TableRoom items entries kernels lookaheads kinds values gotos named count rules strings lines) where
  pub few_of : rules ≤ count
  few_of = omega (arith, S.all_items)

  pub few_items : count < 256
  few_items = omega (arith, S.all_items, S.few_rules, S.few_strings)

module _ {items entries kernels lookaheads kinds values gotos named links uses nul fst starts through : List ℕ} {count rules strings lines codes : ℕ}
    (S : TableRoom items entries kernels lookaheads kinds values gotos named count rules strings lines) (C : Computed items kernels links uses nul fst starts through rules lines codes) where
  pub lined_of : Lined items kernels links count lines
  lined_of = record { shaped = S.shaped; some_lines = S.some_lines; linked = C.linked }

  pub readable_of : {present : List ℕ} → length present ≡ 64 → Readable items kernels links present count rules lines
  readable_of e = record { lined = lined_of; few = few_of S; room = e }

  pub ready_of : FirstRoom items nul fst count codes
  ready_of = record { shaped = S.shaped; few_codes = C.few_codes; nul_room = C.nul_room; fst_room = C.fst_room }

module _ {g : Grammar} {t : Table} {items entries kernels lookaheads kinds values gotos named : List ℕ} {rules strings lines states codes : ℕ}
    (G : Given g t items entries kernels lookaheads kinds values gotos named rules strings lines states codes) where
  pub memory_of : InMemory items kernels lookaheads rules lines codes g t
  memory_of = let H = G.held in
      in_memory H.formed H.fits H.holds_items H.holds_kernels H.rule_count H.line_count (omega (arith, G.code_count))

  pub held_at : {present symbols : List ℕ} {q : ℕ} → HoldsPresent g t q present → HoldsMoves g t q symbols → 1 ≤ q → q ≤ states
      → HeldAt g t items entries kernels kinds values gotos named present symbols rules strings lines q
  held_at P M a b = record {
    lookaheads = lookaheads;
    held = G.held;
    holds_named = G.holds_named;
    holds_present = P;
    holds_moves = M;
    state_declared = (a, omega (arith, b, G.state_count));
  }
