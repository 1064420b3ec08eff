-- What is decided of a state in memory is what the construction asks of it.
use Prim.Native.Nat.{ℕ, zero, ◌+◌, ◌<◌}
use mathlib.Core.Path.{◌≡◌, refl, sym, ap, subst, ◌∙◌}
use mathlib.Core.List.{List}
use mathlib.Core.Option.{some}
use native.Mathlib.Omega.{arith}
use lib.ListN.{get_or}
use Rattle.language.specs.Grammar.{Grammar}
use Rattle.leftcorner.specs.Table.{EntryLine, E, Table, entry_at}
use Rattle.leftcorner.specs.Construction.{entry_item, EntryAt, KernelAt, ItemsMeet}
use Rattle.fixpoint.specs.Flags.{On, Decides}
use Rattle.fixpoint.proofs.PassLaws.{is_yes, is_no}
use Rattle.memory.proofs.RangeLaws.{entry_at_lem, entry_range}
use Rattle.memory.specs.Memory.{item_at, dot_at}
use Rattle.kernel_lines.specs.Lines.{LineAt}
use Rattle.kernel_lines.proofs.HeldLaws.{line_of, kernel_of}
use Rattle.check_targets.specs.declared.ItemFault.{ItemFault}
use Rattle.check_targets.specs.Targets.{MovesMeet}
use Rattle.check_targets.specs.Faults.{MoveNamedIs, no_fault}
use Rattle.check_targets.proofs.FaultLaws.{is_named, moves_decided}
use Rattle.check_items.specs.Items.{EntryMeets, EntriesAtMeet, ItemNamedIs, ItemFaultIs, HeldAt}

module _ (g : Grammar) (t : Table) {items entries kernels kinds values gotos named present symbols : List ℕ} {rules strings lines q : ℕ}
    (H : HeldAt g t items entries kernels kinds values gotos named present symbols rules strings lines q) where
  same_item : (k : ℕ) → rules + k ≡ entry_item g t k
  same_item k = omega (arith, H.held.rule_count)

  meets_all : On named q → EntriesAtMeet entries kernels rules strings lines q → MovesMeet g t q → ItemsMeet g t q
  meets_all o a m = record {
    entry_has = λ k γ e. let r = entry_range t H.held.entry_count k e in
        subst (λ (i : ℕ). (σ : List ℕ) × KernelAt g t q i zero σ) (same_item k)
        (kernel_of g t H.held.holds_kernels H.held.line_count ((a k r.0 r.1).has (H.held.holds_entries.state_is k q e)));
    entry_only = λ k γ e i n σ km. let r = entry_range t H.held.entry_count k e in
        let l = line_of g t H.held.holds_kernels H.held.line_count km in
        let h = (a k r.0 r.1).only (H.held.holds_entries.state_is k q e) l.line l.is_it.low l.is_it.state in
        (sym l.is_it.item ∙ (h.0 ∙ same_item k), sym l.is_it.dot ∙ h.1);
    move_has = m.move_has;
    move_only = m.move_only;
    named = λ lo hi. H.holds_named.only q lo hi o;
  }

  meets_named : ItemsMeet g t q → On named q
  meets_named w = let d = H.state_declared in H.holds_named.every q d.0 d.1 (w.named d.0 d.1)

  meets_moves : ItemsMeet g t q → MovesMeet g t q
  meets_moves w = record { move_has = w.move_has; move_only = w.move_only }

  meets_entries : ItemsMeet g t q → EntriesAtMeet entries kernels rules strings lines q
  meets_entries w k lo hi = go (entry_at_lem t H.held.entry_count k lo hi)
    where
      go : (x : EntryLine) × (entry_at t k ≡ some x) → EntryMeets entries kernels rules lines q k
      go (E s γ, e) = record {
        has = λ z. let r = w.entry_has k γ (here z) in
            subst (λ (i : ℕ). LineAt kernels lines q i 0) (sym (same_item k)) (line_of g t H.held.holds_kernels H.held.line_count r.1);
        only = λ z l b f.
            let v = kernel_of g t H.held.holds_kernels H.held.line_count
            (record { line = l; is_it = record { low = b; state = f; item = refl; dot = refl } }) in
            let r = w.entry_only k γ (here z) (item_at kernels l) (dot_at kernels l) v.0 v.1 in
            (r.0 ∙ sym (same_item k), r.1);
      }
        where
          here : get_or entries k 0 ≡ q → EntryAt g t k q γ
          here z = e ∙ ap (λ (u : ℕ). some (E u γ)) (sym (H.held.holds_entries.state_is k s e) ∙ z)

  -- no fault exactly where the state's items are those of the construction
  pub items_decided : q < 256 → {count : ℕ} {r : ItemFault} → ItemFaultIs items entries kernels kinds values gotos named present symbols count rules strings lines q r
      → Decides (ItemsMeet g t q) (no_fault r)
  items_decided low {count} {r = r} f = go r f.is
    where
      moves : (r : ItemFault) → MoveNamedIs items kernels present symbols kinds values gotos count rules lines q r → Decides (MovesMeet g t q) (no_fault r)
      moves r h = moves_decided g t H.held H.holds_present H.holds_moves low {r = r} (record { is = h })

      go : (r : ItemFault) → ItemNamedIs items entries kernels kinds values gotos named present symbols count rules strings lines q r → Decides (ItemsMeet g t q) (no_fault r)
      go ItemFault.Unnamed h = is_no _ (λ w. (meets_named w).nonzero h)
      go (ItemFault.Entry k) h = is_no _ (λ w. h.2 (meets_entries w k h.0 h.1))
      go (ItemFault.Lost i k) h = is_no _ (λ w. (moves (ItemFault.Lost i k) h).no refl (meets_moves w))
      go (ItemFault.Extra X l) h = is_no _ (λ w. (moves (ItemFault.Extra X l) h).no refl (meets_moves w))
      go ItemFault.Nothing h = is_yes _ (meets_all h.0 h.1 ((moves ItemFault.Nothing h.2).yes refl))

  -- a fault that is named shows that the state's items are not those of the construction
  pub refutes : q < 256 → {count : ℕ} (r : ItemFault) → (r ≡ ItemFault.Nothing → ⊥)
      → ItemFaultIs items entries kernels kinds values gotos named present symbols count rules strings lines q r → ItemsMeet g t q → ⊥
  refutes low r n f = (items_decided low f).no (is_named r n)
