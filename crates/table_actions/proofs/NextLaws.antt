-- What comes of a place where an action line may stand; and what a line that is taken tells.
use Prim.Native.Nat.{ℕ, zero, suc, ◌+◌, ◌≤◌, ◌<◌}
use mathlib.Core.Path.{◌≡◌, ◌∙◌}
use mathlib.Core.List.{List, [], ◌∷◌}
use mathlib.Core.Bool.{Bool, true, false, cond, ◌&&◌}
use native.Mathlib.Omega.{arith}
use borrow.Author.Tests.{leb-true, eqb-true, le-leb, lt-leb}
use lib.Dec.{leb, eqb}
use lib.ListN.{length, get_or}
use Rattle.language.proofs.TestLaws.{both_true}
use Rattle.range.specs.Range.{within}
use Rattle.range.proofs.RangeLaws.{within-true}
use Rattle.reply.specs.declared.Kind.{Kind}
use Rattle.reply.specs.declared.Kind.TheVariants as kind
use Rattle.symbol.specs.Symbol.{is_terminal, is_nonterminal}
use Rattle.leftcorner.specs.Table.{Action, S, N, A, P, ActionLine, L}
use Rattle.table_order.specs.Order.{follows, action_key}
use Rattle.table_order.specs.Last.{LastIs}
use Rattle.table_lines.specs.declared.Judgement.TheVariants.{Fine, Faulty}
use Rattle.table_lines.specs.Line.{whole, broken, line_at, all_at_most, capped}
use Rattle.table_lines.specs.Block.{takes, stops, fault}
use Rattle.table_lines.proofs.BlockLaws.{judge_fine}
use Rattle.table_lines.proofs.CapLaws.{at_most}
use Rattle.table_actions.specs.Actions.{is_action, action_of, action_declared, judge_action, action_next}
use Rattle.table_actions.specs.Memory.{Formed}
use Rattle.table_actions.proofs.CapLaws.{action_capped}

module _ (s : List ℕ) (t n rules states at : ℕ) (l : List ActionLine) where
  pub action_end : length s ≤ at → action_next s t n rules states at l ≡ stops
  unfolding action_next
  action_end h = simp (le-leb (length s) at h)

  module _ (h : at < length s) where
    pub action_broken : line_at s at ≡ broken → action_next s t n rules states at l ≡ fault kind.Malformed at
    unfolding action_next
    action_broken e = simp (lt-leb (length s) at h, e)

    pub action_taken : {letter : ℕ} {ns : List ℕ} {next : ℕ} → line_at s at ≡ whole letter ns next → judge_action t n rules states l letter ns ≡ Fine
        → action_next s t n rules states at l ≡ takes (L (get_or ns 0 0) (get_or ns 1 0) (action_of letter (get_or ns 2 0))) next
    unfolding action_next
    action_taken e j = simp (lt-leb (length s) at h, e, j)

    -- by the numbers as memory keeps them
    module _ {last : List ℕ} (after : LastIs action_key last l) {letter : ℕ} {ns : List ℕ} {next : ℕ} (e : capped (line_at s at) ≡ whole letter ns next) where
      pub action_refused : {why : Kind} → judge_action t n rules states l letter ns ≡ Faulty why → action_next s t n rules states at l ≡ fault why at
      action_refused j = action_capped s t n rules states at l after ∙ simp (lt-leb (length s) at h, e, j)

      pub action_kept : judge_action t n rules states l letter ns ≡ Fine
          → action_next s t n rules states at l ≡ takes (L (get_or ns 0 0) (get_or ns 1 0) (action_of letter (get_or ns 2 0))) next
      action_kept j = action_capped s t n rules states at l after ∙ simp (lt-leb (length s) at h, e, j)

-- ---- a line that is fine
pub record ActionFine (t n rules states : ℕ) (l : List ActionLine) (letter : ℕ) (ns : List ℕ) : Type 0 where
  pub three : length ns ≡ 3
  pub after : follows action_key l (get_or ns 0 0 ∷ get_or ns 1 0 ∷ []) ≡ true
  pub small : all_at_most 65535 ns ≡ true
  pub state_in : (1 ≤ get_or ns 0 0) × (get_or ns 0 0 ≤ states)
  pub declared : action_declared t n rules states letter (get_or ns 1 0) (get_or ns 2 0) ≡ true

pub action_fine : (t n rules states : ℕ) (l : List ActionLine) (letter : ℕ) (ns : List ℕ) → judge_action t n rules states l letter ns ≡ Fine → ActionFine t n rules states l letter ns
unfolding judge_action
action_fine t n rules states l letter ns e =
    let j = judge_fine (is_action letter && (eqb (length ns) 3 && follows action_key l (get_or ns 0 0 ∷ get_or ns 1 0 ∷ []))) (all_at_most 65535 ns)
    (within 1 (get_or ns 0 0) states && action_declared t n rules states letter (get_or ns 1 0) (get_or ns 2 0)) e in
    let f = both_true (is_action letter) (eqb (length ns) 3 && follows action_key l (get_or ns 0 0 ∷ get_or ns 1 0 ∷ [])) j.0 in
    let g = both_true (eqb (length ns) 3) (follows action_key l (get_or ns 0 0 ∷ get_or ns 1 0 ∷ [])) f.1 in
    let d = both_true (within 1 (get_or ns 0 0) states) (action_declared t n rules states letter (get_or ns 1 0) (get_or ns 2 0)) j.2 in
    record {
      three = eqb-true (length ns) 3 g.0;
      after = g.1;
      small = j.1;
      state_in = within-true 1 (get_or ns 0 0) states d.0;
      declared = d.1;
    }

-- what holds of each kind of line holds of a declared one
module _ (Q : Action → Type 0) (t n rules states letter X v : ℕ) where
  pub all_letters : ((1 ≤ X) × (X ≤ t) → (1 ≤ v) × (v ≤ states) → Q (S v)) → ((64 ≤ X) × (X ≤ 63 + n) → (1 ≤ v) × (v ≤ states) → Q (N v))
      → (X ≤ t → (1 ≤ v) × (v ≤ rules) → Q (A v)) → (X ≤ t → Q (P v)) → action_declared t n rules states letter X v ≡ true → Q (action_of letter v)
  unfolding action_declared action_of
  all_letters shift goto announce pop e = go (eqb letter 83) (eqb letter 78) (eqb letter 65) e
    where
      go : (x y z : Bool) → cond x (is_terminal t X && within 1 v states) (cond y (is_nonterminal n X && within 1 v states) (cond z (leb X t && within 1 v rules) (leb X t))) ≡ true
          → Q (cond x (S v) (cond y (N v) (cond z (A v) (P v))))
      go true y z e = let p = both_true (is_terminal t X) (within 1 v states) e in shift (within-true 1 X t p.0) (within-true 1 v states p.1)
      go false true z e = let p = both_true (is_nonterminal n X) (within 1 v states) e in goto (within-true 64 X (63 + n) p.0) (within-true 1 v states p.1)
      go false false true e = let p = both_true (leb X t) (within 1 v rules) e in announce (leb-true X t p.0) (within-true 1 v rules p.1)
      go false false false e = pop (leb-true X t e)

-- its line is formed
module _ (t n rules states : ℕ) (few : t ≤ 63) (small : n ≤ 64) (short : rules ≤ 127) (low : states ≤ 255) where
  formed : (letter q X v : ℕ) → 1 ≤ q → q ≤ states → v ≤ 65535 → action_declared t n rules states letter X v ≡ true → Formed (L q X (action_of letter v))
  formed letter q X v a b m =
      all_letters (λ x. Formed (L q X x)) t n rules states letter X v
      (λ w u. (a, omega arith, omega (arith, w.1), u.0, omega (arith, u.1)))
      (λ w u. (a, omega arith, (w.0, omega (arith, w.1)), u.0, omega (arith, u.1)))
      (λ w u. (a, omega arith, omega (arith, w), u.0, omega (arith, u.1)))
      (λ w. (a, omega arith, omega (arith, w), omega arith, m))

  pub fine_formed : {l : List ActionLine} {letter : ℕ} (ns : List ℕ) → ActionFine t n rules states l letter ns → Formed (L (get_or ns 0 0) (get_or ns 1 0) (action_of letter (get_or ns 2 0)))
  fine_formed {letter = letter} ns f = formed letter (get_or ns 0 0) (get_or ns 1 0) (get_or ns 2 0) f.state_in.0 f.state_in.1 (at_most 65535 ns f.small 2) f.declared

-- its key is of numbers that memory keeps as they are
pub key_small : (ns : List ℕ) → all_at_most 65535 ns ≡ true → (j : ℕ) → get_or (get_or ns 0 0 ∷ get_or ns 1 0 ∷ []) j 0 ≤ 65535
key_small ns e zero = at_most 65535 ns e 0
key_small ns e (suc zero) = at_most 65535 ns e 1
key_small ns e (suc (suc j)) = omega arith
