-- A part of an item against the entries' strings.
use Prim.Native.Nat.{ℕ, ◌+◌, ◌≤◌, ◌<◌}
use mathlib.Core.Path.{◌≡◌, sym, ap, subst, ◌∙◌}
use mathlib.Core.List.{List, ◌∷◌, ◌++◌}
use mathlib.Core.Option.{some}
use native.Mathlib.Omega.{arith}
use lib.ListN.{length, get_or, length-append}
use lib.Seq.{ext_get_or}
use Rattle.language.specs.Grammar.{Grammar, Rule, rule_at, concat}
use Rattle.leftcorner.specs.Table.{EntryLine, E, Table, entry_at, entry_from}
use Rattle.leftcorner.specs.Construction.{entry_item, EntryAt}
use Rattle.leftcorner.proofs.ReadOff.{entry_is}
use Rattle.items.specs.Layout.{symbol_at, EntryIn}
use Rattle.memory.proofs.RangeLaws.{entry_at_lem, entry_range}
use Rattle.item_groups.proofs.GroupLaws.{base_of, symbol_at_lem, right-length}
use Rattle.check_entries.specs.Parts.{SamePart, FindsEntry}
use Rattle.check_entries.specs.Uses.{HoldsStrings}

module _ (g : Grammar) (t : Table) {items : List ℕ} {rules strings : ℕ} (S : HoldsStrings g t items rules strings) where
  pub entry_row : (k : ℕ) {s : ℕ} {γ : List ℕ} → EntryAt g t k s γ → EntryIn items (rules + k) γ
  entry_row k {s} {γ} e = subst (λ (i : ℕ). EntryIn items i γ) (let z : entry_item g t k ≡ rules + k = omega (arith, S.rule_count) in z) (S.holds_items.entry_row k s e)

  module _ (i : ℕ) (r : Rule) (is_rule : rule_at g i ≡ some r) (δs : List (List ℕ)) (γ : List ℕ) (εs : List (List ℕ)) (split : r.groups ≡ δs ++ γ ∷ εs) where
    part_symbol : (m : ℕ) → m < length γ → symbol_at items i (base_of r δs + m) ≡ get_or γ m 0
    part_symbol m l =
        (S.holds_items.rule_row i is_rule).symbol_is (base_of r δs + m) (omega (arith, right-length r δs (γ ∷ εs) split, length-append γ (concat εs), l, (S.formed.formed i is_rule).short))
        ∙ symbol_at_lem r δs γ εs split m l

    pub part_same : (k : ℕ) {s : ℕ} → EntryAt g t k s γ → SamePart items i (base_of r δs) (length γ) (rules + k)
    part_same k {s} e = record {
      same_length = (entry_row k e).length_is;
      same_symbols = λ j l. part_symbol j l ∙ sym ((entry_row k e).symbol_is j (omega (arith, l, S.fits.string_short k s γ e)));
    }

    pub same_part : (k : ℕ) → 1 ≤ k → k < strings + 1 → SamePart items i (base_of r δs) (length γ) (rules + k) → (s : ℕ) × EntryAt g t k s γ
    same_part k a b h = go (entry_at_lem t S.entry_count k a b)
      where
        go : (x : EntryLine) × (entry_at t k ≡ some x) → (s : ℕ) × EntryAt g t k s γ
        go (E s δ, e) =
            let len : length δ ≡ length γ = sym (entry_row k e).length_is ∙ h.same_length in
            let same : δ ≡ γ = ext_get_or 0 δ γ len (λ j l.
            sym ((entry_row k e).symbol_is j (omega (arith, l, S.fits.string_short k s δ e)))
            ∙ (sym (h.same_symbols j (omega (arith, l, len))) ∙ part_symbol j (omega (arith, l, len)))) in
            (s, e ∙ ap (λ (m : List ℕ). some (E s m)) same)

    module _ {n x : ℕ} (is-n : n ≡ length γ) (F : FindsEntry items rules strings i (base_of r δs) n x) where
      pub found_entry : (x ≡ 0 → ⊥) → (s : ℕ) × EntryAt g t x s γ
      found_entry f = same_part x (omega arith) (omega (arith, F.low)) (subst (λ (m : ℕ). SamePart items i (base_of r δs) m (rules + x)) is-n (F.some f))

      pub found_number : (x ≡ 0 → ⊥) → entry_from 1 t.entries γ ≡ x
      found_number f = let e = found_entry f in entry_is g t S.fits.form x e.0 γ e.1

      pub found_none : x ≡ 0 → (k : ℕ) {s : ℕ} → EntryAt g t k s γ → ⊥
      found_none z k e = let b = entry_range t S.entry_count k e in
          F.none z k b.0 b.1 (subst (λ (m : ℕ). SamePart items i (base_of r δs) m (rules + k)) (sym is-n) (part_same k e))
