-- An item's row in memory against its string and recognition point.
use Prim.Native.Nat.{ℕ, zero, suc, ◌≤◌, ◌<◌}
use mathlib.Core.Path.{◌≡◌, refl, sym, ap, subst, ◌∙◌}
use mathlib.Core.Logic.{◌⊎◌, inl, inr}
use mathlib.Core.List.{List, [], ◌∷◌}
use mathlib.Core.Option.{some, none}
use native.Mathlib.Decide.{ℕ_discrete, dec_lt}
use native.Mathlib.Omega.{arith}
use lib.ListN.{length, get_or, drop}
use lib.Seq.{drop-cons}
use Rattle.language.specs.Grammar.{Grammar, Rule, rule_at, right, IsTerminal, IsNonterminal}
use Rattle.language.specs.Sentence.{In, here}
use Rattle.language.proofs.Member.{in_drop}
use Rattle.leftcorner.specs.Table.{Table, string_of, symbols_of, recognition_point, Goes}
use Rattle.leftcorner.specs.Construction.{entry_item, EntryAt}
use Rattle.leftcorner.proofs.ReadOff.{clash, string_at}
use Rattle.leftcorner.proofs.Sources.{symbols_rule, point_rule, symbols_entry, point_entry}
use Rattle.items.specs.Layout.{length_at, mark_at, symbol_at, EntryIn}
use Rattle.memory.specs.Held.{HoldsTable}
use Rattle.moves.specs.Moves.{symbol_after}
use Rattle.moves.proofs.MoveLaws.{after_end, after_mark, after_symbol}

drop_head : (k : ℕ) (l : List ℕ) (X : ℕ) (β : List ℕ) → drop k l ≡ X ∷ β → (k < length l) × (get_or l k 0 ≡ X)
drop_head zero [] X β e = clash cc
drop_head zero (Y ∷ l) X β e = (omega arith, cc)
drop_head (suc k) [] X β e = clash cc
drop_head (suc k) (Y ∷ l) X β e = let r = drop_head k l X β e in (omega (arith, r.0), r.1)

in_string : (k : ℕ) (l : List ℕ) (X : ℕ) (β : List ℕ) → drop k l ≡ X ∷ β → In X l
in_string k l X β e = in_drop k l (subst (In X) (sym e) here)

module _ (g : Grammar) (t : Table) {items entries kernels lookaheads kinds values gotos : List ℕ} {rules strings lines : ℕ}
    (H : HoldsTable g t items entries kernels lookaheads kinds values gotos rules strings lines) where
  pub kind_low : {X : ℕ} → IsTerminal g X ⊎ IsNonterminal g X → (1 ≤ X) × (X < 128)
  kind_low (inl k) = (omega (arith, k.0), omega (arith, k.1, H.formed.few_terminals))
  kind_low (inr k) = (omega (arith, k.0), omega (arith, k.1, H.formed.few_nonterminals))

  -- a rule, or the string of an entry
  abbrev pub DeclaredItem : ℕ → Type 0
  DeclaredItem i = ((r : Rule) × (rule_at g i ≡ some r)) ⊎ ((j : ℕ) × (s : ℕ) × (γ : List ℕ) × (i ≡ entry_item g t j) × EntryAt g t j s γ)

  pub record Row (i : ℕ) : Type 0 where
    pub string : List ℕ
    pub string_is : symbols_of g t i ≡ string
    pub short : length string ≤ 15
    pub length_is : length_at items i ≡ length string
    pub symbol_is : (k : ℕ) → k < 15 → symbol_at items i k ≡ get_or string k 0
    pub declared : (X : ℕ) → In X string → (1 ≤ X) × (X < 128)
    pub mark_is : (k : ℕ) → k < 15 → recognition_point g t i ≡ some k → mark_at items i ≡ k
    pub is_mark : (k : ℕ) → k < 15 → mark_at items i ≡ k → recognition_point g t i ≡ some k

  rule_row : (i : ℕ) (r : Rule) → rule_at g i ≡ some r → Row i
  rule_row i r e =
      let w = H.holds_items.rule_row i e in
      let f = H.formed.formed i e in
      record {
        string = right r;
        string_is = symbols_rule g t i r e;
        short = f.short;
        length_is = w.length_is;
        symbol_is = w.symbol_is;
        declared = λ X m. kind_low (f.declared X m);
        mark_is = λ k l h. let z : some (length r.before) ≡ some k = sym (point_rule g t i r e) ∙ h in
            let y : length r.before ≡ k = cc in w.mark_is ∙ y;
        is_mark = λ k l h. point_rule g t i r e ∙ ap (λ (n : ℕ). some n) (sym w.mark_is ∙ h);
      }

  entry_row : (i j s : ℕ) (γ : List ℕ) → i ≡ entry_item g t j → EntryAt g t j s γ → Row i
  entry_row i j s γ ei e = subst Row (sym ei) (go (H.holds_items.entry_row j s e))
    where
      string_it : string_at t j ≡ γ
      string_it = ap string_of e

      go : EntryIn items (entry_item g t j) γ → Row (entry_item g t j)
      go w = record {
        string = γ;
        string_is = symbols_entry g t j s γ e ∙ string_it;
        short = H.fits.string_short j s γ e;
        length_is = w.length_is;
        symbol_is = w.symbol_is;
        declared = λ X m. kind_low (H.fits.string_declared j s γ e X m);
        mark_is = λ k l h. clash (let z : none ≡ some k = sym (point_entry g t j s γ e) ∙ h in cc);
        is_mark = λ k l h. absurd (omega (arith, w.mark_is, h, l));
      }

  pub row_of : {i : ℕ} → DeclaredItem i → Row i
  row_of {i} (inl (r, e)) = rule_row i r e
  row_of {i} (inr (j, s, γ, ei, e)) = entry_row i j s γ ei e

  -- the dot before a symbol, and not at the recognition point
  pub symbol_of_goes : {i k X : ℕ} {β : List ℕ} → Row i → Goes g t i k X β → (symbol_after items i k ≡ X) × ((1 ≤ X) × (X < 128))
  symbol_of_goes {i} {k} {X} {β} R h = go (drop_head k R.string X β (ap (drop k) (sym R.string_is) ∙ h.before))
    where
      go : (k < length R.string) × (get_or R.string k 0 ≡ X) → (symbol_after items i k ≡ X) × ((1 ≤ X) × (X < 128))
      go (l, e) =
          let low : k < 15 = omega (arith, R.short) in
          let within : k < length_at items i = omega (arith, R.length_is) in (
            sym (after_symbol items i k within refl (λ z. h.unmarked (R.is_mark k low z))) ∙ (R.symbol_is k low ∙ e),
            R.declared X (in_string k R.string X β (ap (drop k) (sym R.string_is) ∙ h.before)),
          )

  pub goes_of_symbol : {i : ℕ} (k : ℕ) {X : ℕ} → Row i → symbol_after items i k ≡ X → (X ≡ 0 → ⊥) → (β : List ℕ) × Goes g t i k X β
  goes_of_symbol {i} k {X} R e n = go (dec_lt k (length_at items i)) (ℕ_discrete (mark_at items i) k)
    where
      go : Dec (k < length_at items i) → Dec (mark_at items i ≡ k) → (β : List ℕ) × Goes g t i k X β
      go (no f) d = absurd (n (sym e ∙ sym (after_end items i k refl (omega arith))))
      go (yes l) (yes m) = absurd (n (sym e ∙ sym (after_mark items i k l refl m)))
      go (yes l) (no m) =
          let within : k < length R.string = omega (arith, R.length_is) in
          let low : k < 15 = omega (arith, R.short) in
          let x : get_or R.string k 0 ≡ X = sym (R.symbol_is k low) ∙ (after_symbol items i k l refl m ∙ e) in (
            drop (suc k) R.string,
            record {
              before = ap (drop k) R.string_is ∙ (drop-cons R.string k 0 within ∙ ap (λ (Y : ℕ). Y ∷ drop (suc k) R.string) x);
              unmarked = λ h. m (R.mark_is k low h);
            },
          )
