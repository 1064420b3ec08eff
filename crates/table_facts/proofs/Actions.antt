-- Action lines that are read: to the book's last byte, their states, symbols and rules declared and of their kinds, in rising
-- order.
use Prim.Native.Nat.{ℕ, ◌+◌, ◌≤◌}
use mathlib.Core.Path.{◌≡◌, subst}
use mathlib.Core.Logic.{⊎_elim}
use mathlib.Core.List.{List, [], ◌∷◌, ◌++◌}
use native.Mathlib.Omega.{arith}
use borrow.Author.Tests.{leb-true}
use lib.Dec.{leb}
use lib.ListN.{length, get_or}
use Rattle.range.proofs.TestLaws.{all_cond}
use Rattle.leftcorner.specs.Table.{Action, S, N, A, P, ActionLine, L}
use Rattle.leftcorner.proofs.ReadOff.{clash}
use Rattle.table_order.specs.Order.{action_key}
use Rattle.table_order.proofs.OrderLaws.{RisingBy, rising_more}
use Rattle.table_lines.specs.declared.Judgement.{Judgement}
use Rattle.table_lines.specs.Line.{line_at}
use Rattle.table_lines.specs.Block.{Outcome, takes, stops, read}
use Rattle.table_lines.proofs.BlockLaws.{lines_keep}
use Rattle.table_actions.specs.Actions.{action_of, judge_action, action_next, actions_from}
use Rattle.table_actions.proofs.NextLaws.{action_fine, all_letters}
use Rattle.table_facts.proofs.Lines.{all_line, judged_goes, Came, judged_came, came_onward}
use Rattle.table_facts.proofs.Blocks.{block_ends, Each, each_none, each_more}

module _ (t n rules states : ℕ) where
  -- the symbol of the action's kind, with a declared state or rule
  abbrev pub OfKind : ℕ → Action → Type 0
  OfKind X (S v) = ((1 ≤ X) × (X ≤ t)) × ((1 ≤ v) × (v ≤ states))
  OfKind X (N v) = ((64 ≤ X) × (X ≤ 63 + n)) × ((1 ≤ v) × (v ≤ states))
  OfKind X (A v) = (X ≤ t) × ((1 ≤ v) × (v ≤ rules))
  OfKind X (P v) = X ≤ t

  abbrev pub Declared : ActionLine → Type 0
  Declared (L q X x) = ((1 ≤ q) × (q ≤ states)) × OfKind X x

module _ (s : List ℕ) (t n rules states : ℕ) where
  abbrev next : ℕ → List ActionLine → Outcome ActionLine
  next = action_next s t n rules states

  abbrev judged_as : List ActionLine → ℕ → List ℕ → Judgement
  judged_as = judge_action t n rules states

  abbrev made_of : ℕ → List ℕ → ActionLine
  made_of letter ns = L (get_or ns 0 0) (get_or ns 1 0) (action_of letter (get_or ns 2 0))

  pub action_came : (at : ℕ) (l : List ActionLine) (x : ActionLine) (past : ℕ) → next at l ≡ takes x past → Came s at (judged_as l) made_of x past
  unfolding action_next
  action_came at l x past =
      all_cond C (leb (length s) at) (λ p q. clash cc) (λ p. all_line C (line_at s at) (judged_came s at (judged_as l) made_of) (λ q. clash cc))
    where
      C : Outcome ActionLine → Type 0
      C o = o ≡ takes x past → Came s at (judged_as l) made_of x past

  action_ends : (at : ℕ) (l : List ActionLine) → next at l ≡ stops → length s ≤ at
  unfolding action_next
  action_ends at l =
      all_cond C (leb (length s) at) (λ p q. leb-true (length s) at p)
      (λ p. all_line C (line_at s at) (λ letter ns past e. judged_goes (judged_as l letter ns) at (made_of letter ns) past) (λ q. clash cc))
    where
      C : Outcome ActionLine → Type 0
      C o = o ≡ stops → length s ≤ at

  abbrev Kept : List ActionLine → Type 0
  Kept l = Each (Declared t n rules states) l × RisingBy action_key l

  action_kept : (at : ℕ) (l : List ActionLine) (x : ActionLine) (past : ℕ) → Kept l → next at l ≡ takes x past → Kept (l ++ x ∷ [])
  action_kept at l x past h e =
      let c = action_came at l x past e in
      let ns = c.numbers in
      let f = action_fine t n rules states l c.letter ns c.fine in
      let k = all_letters (OfKind t n rules states (get_or ns 1 0)) t n rules states c.letter (get_or ns 1 0) (get_or ns 2 0)
      (λ w u. (w, u)) (λ w u. (w, u)) (λ w u. (w, u)) (λ w. w) f.declared in
      subst (λ (y : ActionLine). Kept (l ++ y ∷ [])) c.made
      (each_more (Declared t n rules states) h.0 (f.state_in, k), rising_more action_key l (made_of c.letter ns) h.1 f.after)

  module _ (at : ℕ) {xs : List ActionLine} {end : ℕ} (e : actions_from s t n rules states at ≡ read xs end) where
    kept : Kept xs
    kept = lines_keep Kept next action_kept (length s) at [] (each_none (Declared t n rules states), tt) xs end e

    pub actions_declared : Each (Declared t n rules states) xs
    actions_declared = kept.0

    pub actions_rise : RisingBy action_key xs
    actions_rise = kept.1

    -- the block ends with the book, never by its number of lines
    pub book_ended : length s ≤ end
    book_ended =
        ⊎_elim (λ h. omega (arith, h.1)) (action_ends end xs)
        (block_ends next (λ at l x past q. came_onward (action_came at l x past q)) (length s) at [] e)
