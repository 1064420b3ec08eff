-- What a search finds of the moves, and what it tells of the construction.
use Prim.Native.Nat.{ℕ, ◌+◌, ◌≤◌, ◌<◌}
use native.Mathlib.Omega.{arith}
use mathlib.Core.Path.{◌≡◌, refl, sym, ◌∙◌}
use mathlib.Core.Bool.{false}
use mathlib.Core.List.{List}
use Rattle.language.specs.Grammar.{Grammar}
use Rattle.leftcorner.specs.Table.{Table}
use Rattle.fixpoint.specs.Flags.{On, Decides}
use Rattle.fixpoint.specs.declared.Found.{Found}
use Rattle.fixpoint.proofs.PassLaws.{is_yes, is_no}
use Rattle.memory.specs.Memory.{state_at, item_at, dot_at}
use Rattle.memory.specs.Held.{HoldsTable}
use Rattle.moves.specs.Moves.{next_at, Present, by_line, by_rule, MovedAt}
use Rattle.moves.specs.Flags.{HoldsPresent, HoldsMoves}
use Rattle.check_targets.specs.declared.ItemFault.{ItemFault}
use Rattle.fixpoint.specs.Misses.{Misses}
use Rattle.check_targets.specs.Targets.{Arrives, MovesMeet}
use Rattle.check_targets.specs.Faults.{FindsExtra, LostItem, MoveNamedIs, MoveFaultIs, no_fault}
use Rattle.check_targets.proofs.ArriveLaws.{arrives_to, target_moved}
use Rattle.check_targets.proofs.MeetLaws.{meets, meets_item, meets_only}

module _ {items kernels present symbols kinds values gotos : List ℕ} {rules lines q X : ℕ} where
  -- a line of the next state to which nothing moves
  pub finds_extra : (s : ℕ) {r : Found} → s ≡ next_at kinds values gotos q X → On symbols X → (s ≡ 0 → ⊥)
      → Misses (λ l. state_at kernels l ≡ s) (λ l. MovedAt items kernels present rules lines q X (item_at kernels l) (dot_at kernels l)) 0 lines r
      → FindsExtra items kernels present symbols kinds values gotos rules lines q X r
  finds_extra s is-s on some m = record {
    found = λ l e. let h = m.found l e in record { moves = on; some = λ z. some (is-s ∙ z); low = h.1; next = h.2 ∙ is-s; unmoved = h.3 };
    none = λ e. target_moved s is-s (λ l b f. m.none e l (omega arith) b f);
  }

module _ {items kernels present kinds values gotos : List ℕ} {count rules lines q : ℕ} where
  pub lost_line : {i k l : ℕ} → i ≤ count → k ≤ 15 → i ≡ item_at kernels l → k ≡ dot_at kernels l → l < lines → state_at kernels l ≡ q
      → (Arrives items kernels kinds values gotos lines q (item_at kernels l) (dot_at kernels l) → ⊥) → LostItem items kernels present kinds values gotos count rules lines q i k
  lost_line {i} {k} {l} a b ei ek low e f = record {
    item_low = a;
    dot_low = b;
    has = by_line (record { line = l; is_it = record { low = low; state = e; item = sym ei; dot = sym ek } });
    lost = λ h. f (arrives_to ei ek h);
  }

  pub lost_rule : {i : ℕ} → rules ≤ count → 1 ≤ i → i < rules + 1 → Present items present i → (Arrives items kernels kinds values gotos lines q i 0 → ⊥)
      → LostItem items kernels present kinds values gotos count rules lines q i 0
  lost_rule few a b p f = record { item_low = omega (arith, few, b); dot_low = omega arith; has = by_rule a (omega (arith, b)) p; lost = f }

-- any variant but the last
pub is_named : (r : ItemFault) → (r ≡ ItemFault.Nothing → ⊥) → no_fault r ≡ false
is_named ItemFault.Unnamed n = refl
is_named (ItemFault.Entry k) n = refl
is_named (ItemFault.Lost i k) n = refl
is_named (ItemFault.Extra X l) n = refl
is_named ItemFault.Nothing n = absurd (n refl)

-- no fault exactly where the moves are those of the construction
module _ (g : Grammar) (t : Table) {items entries kernels lookaheads kinds values gotos : List ℕ} {count rules strings lines : ℕ}
    (H : HoldsTable g t items entries kernels lookaheads kinds values gotos rules strings lines)
    {q : ℕ} {present symbols : List ℕ} (P : HoldsPresent g t q present) (M : HoldsMoves g t q symbols) (low : q < 256) where
  pub moves_decided : {r : ItemFault} → MoveFaultIs items kernels present symbols kinds values gotos count rules lines q r → Decides (MovesMeet g t q) (no_fault r)
  moves_decided {r = r} f = go r f.is
    where
      go : (r : ItemFault) → MoveNamedIs items kernels present symbols kinds values gotos count rules lines q r → Decides (MovesMeet g t q) (no_fault r)
      go ItemFault.Unnamed h = absurd h
      go (ItemFault.Entry k) h = absurd h
      go (ItemFault.Lost i k) h = is_no _ (λ w. h.lost (meets_item g t H P M low w h.has))
      go (ItemFault.Extra X l) h = is_no _ (λ w. let x = h.2 in x.unmoved ((meets_only g t H P M low w X h.0 h.1).only x.moves x.some l x.low x.next))
      go ItemFault.Nothing h = is_yes _ (meets g t H P M low h.0 h.1 h.2)
