-- The next states in memory are the moves that the items ask for.
use Prim.Native.Nat.{ℕ, zero, suc, ◌+◌, ◌*◌, ◌≤◌, ◌<◌}
use native.Mathlib.Decide.{dec_lt}
use native.Mathlib.Omega.{arith}
use mathlib.Core.Path.{◌≡◌, refl, sym, ap, subst, ◌∙◌}
use mathlib.Core.List.{List, [], ◌∷◌}
use lib.ListN.{length, get_or, get_or-eq_default}
use Rattle.language.specs.Grammar.{Grammar}
use Rattle.language.specs.Sentence.{In, here}
use Rattle.leftcorner.specs.Table.{S}
use Rattle.leftcorner.specs.Construction.{to_move}
use Rattle.analysis.specs.ByRules.{FirstByRules}
use Rattle.analysis.proofs.Decided.{first?}
use Rattle.build_states.specs.States.{Kernel, move, states, kernel_of, goto}
use Rattle.build_states.proofs.MoveLaws.{move_only, move_nothing, in_move}
use Rattle.build_states.proofs.StateLaws.{goes_to_lem}
use Rattle.build_book.proofs.LineLaws.{moved_alone, alone_moved}
use Rattle.build_book.proofs.BuiltForm.{asked_place, asked_moved}
use Rattle.build_states.specs.Lookaheads.{terminal_codes}
use Rattle.build_states.proofs.CodeLaws.{first_in, codes_low}
use Rattle.build_kernel_sets.specs.Cells.{shift_kind}
use Rattle.build_kernels.specs.Discovered.{next_state, next_none, next_some, HoldsNext}
use Rattle.build_cells.specs.Cells.{AskedOf, HoldsMoves}
use Rattle.build_memory.specs.Stages.{Stated}
use Rattle.build_memory.proofs.StateLaws.{kind_one, limits_of}

module _ {g : Grammar} {items kernels kinds values gotos : List ℕ} {terminals goal rules strings all lines : ℕ}
    (T : Stated g items kernels kinds values gotos terminals goal rules strings all lines) where
  -- something moves
  goes : {q X : ℕ} → AskedOf g q X (S 0) → (next_state g q X ≡ goto g q X) × (1 ≤ goto g q X)
  goes {q} {X} a =
      let m = asked_moved g (FirstByRules g) (first? g) (terminal_codes g) (first_in g) (limits_of T) (codes_low g) a in
      let p = asked_place g (FirstByRules g) (first? g) (terminal_codes g) (first_in g) (limits_of T) (codes_low g) a in
      let n = moved_alone g (FirstByRules g) (first? g) (terminal_codes g) (first_in g) m.2 in
      let i = in_move g T.entered.formed T.entered.few_entries (kernel_of g q) n in
      (next_some g q X (λ e. elim (subst (In (m.0 * 16 + m.1)) e i) [ ]), (goes_to_lem g (limits_of T) q X m.0 m.1 p.0 p.1 n).low)

  -- nothing moves
  stays : {q X : ℕ} → (AskedOf g q X (S 0) → ⊥) → next_state g q X ≡ 0
  stays {q} {X} f = next_none g q X (empty q f)
    where
      none_in : (p : ℕ) → (AskedOf g (suc p) X (S 0) → ⊥) → p < length (states g) → (m : Kernel) → move g (kernel_of g (suc p)) X ≡ m → m ≡ []
      none_in p h l [] e = refl
      none_in p h l (x ∷ m) e =
          let i : In x (move g (kernel_of g (suc p)) X) = subst (In x) (sym e) here in
          absurd (h (to_move (alone_moved g (FirstByRules g) (first? g) (terminal_codes g) (first_in g) {q = suc p} (omega arith) l (move_only g (kernel_of g (suc p)) X x i))))

      empty : (q : ℕ) → (AskedOf g q X (S 0) → ⊥) → move g (kernel_of g q) X ≡ []
      empty zero h = move_nothing g X
      empty (suc p) h = go (dec_lt p (length (states g)))
        where
          go : Dec (p < length (states g)) → move g (kernel_of g (suc p)) X ≡ []
          go (yes l) = none_in p h l (move g (kernel_of g (suc p)) X) refl
          go (no n) =
              let e : get_or (states g) p [] ≡ [] = get_or-eq_default (states g) [] (omega (arith, n)) in
              ap (λ (k : Kernel). move g k X) e ∙ move_nothing g X

  pub moves_hold : HoldsMoves g kinds values gotos
  moves_hold = record {
    shifts = λ q c _ l. record {
      shift = λ a. let w = goes a in (H.kind_is q c l ∙ ap shift_kind w.0 ∙ kind_one (goto g q c) w.1, H.value_is q c l ∙ w.0);
      empty = λ f. let w = stays f in (H.kind_is q c l ∙ ap shift_kind w, H.value_is q c l ∙ w);
    };
    nexts = λ q b _ l. record { next = λ a. H.goto_is q b l ∙ (goes a).0; none = λ f. H.goto_is q b l ∙ stays f };
  }
    where
      H : HoldsNext g kinds values gotos
      H = T.found.holds_next
