-- The list of what moves: what is in it, and that the numbers that are picked from it rise.
use Prim.Native.Nat.{ℕ, zero, suc, ◌+◌, ◌*◌, ◌/◌, ◌%◌, ◌≤◌, ◌<◌}
use native.Mathlib.Decide.{ℕ_discrete, dec_lt}
use native.Mathlib.Numerals.{add-one}
use native.Mathlib.Omega.{arith}
use mathlib.Core.Path.{◌≡◌, refl, sym, ap, subst, ◌∙◌}
use mathlib.Core.Logic.{◌⊎◌, inl, inr}
use mathlib.Core.List.{List, [], ◌∷◌, ◌++◌, append-nil}
use lib.ListN.{length, get_or, set, take}
use lib.Seq.{take-suc-set}
use Rattle.language.specs.Sentence.{In, here, there}
use Rattle.language.proofs.Member.{in_left, in_right, in_either}
use Rattle.language.specs.Rising.{RisingFrom}
use Rattle.build_states.specs.States.{item_of, dot_of}
use Rattle.items.specs.Layout.{length_at, mark_at, symbol_at}
use Rattle.fixpoint.specs.Flags.{On}
use Rattle.analysis.specs.Rests.{Before}
use Rattle.moves.specs.Moves.{symbol_after}
use Rattle.moves.proofs.MoveLaws.{after_end, after_mark, after_symbol}
use Rattle.build_moves.specs.Moved.{moved_if, moved_below, picked}
use Rattle.build_moves.proofs.PickLaws.{in_one, picked_and, picked_none, picked_one, picked_other, in_picked}

-- ---- the symbol at a dot

module _ (items : List ℕ) (i k : ℕ) where
  pub after_before : Before items i k → symbol_after items i k ≡ symbol_at items i k
  after_before b = sym (after_symbol items i k b.within refl b.unmarked)

  pub before_after : (symbol_after items i k ≡ 0 → ⊥) → Before items i k × (symbol_at items i k ≡ symbol_after items i k)
  before_after f = go (dec_lt k (length_at items i)) (ℕ_discrete (mark_at items i) k)
    where
      go : Dec (k < length_at items i) → Dec (mark_at items i ≡ k) → Before items i k × (symbol_at items i k ≡ symbol_after items i k)
      go (no n) d = absurd (f (sym (after_end items i k refl (omega arith))))
      go (yes l) (yes m) = absurd (f (sym (after_mark items i k l refl m)))
      go (yes l) (no m) = (record { within = l; unmarked = m }, after_symbol items i k l refl m)

-- ---- what is in the list

-- number y, below x, is flagged, and its item moves on X
pub record Moving (items held : List ℕ) (x y X : ℕ) : Type 0 where
  pub low : y < x
  pub flag : On held y
  pub symbol : symbol_after items (item_of y) (dot_of y) ≡ X
  pub filled : X ≡ 0 → ⊥

module _ (items held : List ℕ) where
  abbrev symbol : ℕ → ℕ
  symbol x = symbol_after items (item_of x) (dot_of x)

  abbrev one : ℕ → List ℕ
  one x = moved_if x (get_or held x 0) (symbol x)

  in_if : (x : ℕ) {c : ℕ} → In c (one x) → Moving items held (suc x) x (symbol x) × (c ≡ (x + 1) * 128 + symbol x)
  in_if x {c} m = go (get_or held x 0) refl (symbol x) refl m
    where
      go : (f : ℕ) → get_or held x 0 ≡ f → (s : ℕ) → symbol x ≡ s → In c (moved_if x f s) → Moving items held (suc x) x (symbol x) × (c ≡ (x + 1) * 128 + symbol x)
      go zero ef s es m = elim m [ ]
      go (suc f) ef zero es m = elim m [ ]
      go (suc f) ef (suc s) es m = (
        record { low = omega arith; flag = record { nonzero = λ z. omega (arith, z, ef) }; symbol = refl; filled = λ z. omega (arith, z, es) },
        in_one m ∙ ap (λ (n : ℕ). (x + 1) * 128 + n) (sym es),
      )

  if_in : (x : ℕ) → On held x → (symbol x ≡ 0 → ⊥) → one x ≡ ((x + 1) * 128 + symbol x) ∷ []
  if_in x on f = go (get_or held x 0) refl (symbol x) refl
    where
      go : (b : ℕ) → get_or held x 0 ≡ b → (s : ℕ) → symbol x ≡ s → moved_if x b s ≡ ((x + 1) * 128 + s) ∷ []
      go zero eb s es = absurd (on.nonzero eb)
      go (suc b) eb zero es = absurd (f es)
      go (suc b) eb (suc s) es = refl

  -- nothing moves of x
  pub below_skip : (x : ℕ) → (get_or held x 0 ≡ 0) ⊎ (symbol x ≡ 0) → moved_below items held (x + 1) ≡ moved_below items held x
  unfolding moved_below
  below_skip x h = ap (moved_below items held) (add-one x) ∙ ap (λ (l : List ℕ). moved_below items held x ++ l) (go (get_or held x 0) refl (symbol x) refl h) ∙ append-nil (moved_below items held x)
    where
      go : (b : ℕ) → get_or held x 0 ≡ b → (s : ℕ) → symbol x ≡ s → (get_or held x 0 ≡ 0) ⊎ (symbol x ≡ 0) → moved_if x b s ≡ []
      go zero eb s es h = refl
      go (suc b) eb zero es h = refl
      go (suc b) eb (suc s) es (inl z) = absurd (omega (arith, z, eb))
      go (suc b) eb (suc s) es (inr z) = absurd (omega (arith, z, es))

  -- its item moves
  pub below_more : (x : ℕ) → On held x → (symbol x ≡ 0 → ⊥) → moved_below items held (x + 1) ≡ moved_below items held x ++ ((x + 1) * 128 + symbol x) ∷ []
  unfolding moved_below
  below_more x on f = ap (moved_below items held) (add-one x) ∙ ap (λ (l : List ℕ). moved_below items held x ++ l) (if_in x on f)

  pub none_below : moved_below items held 0 ≡ []
  unfolding moved_below
  none_below = refl

  -- one more is stored
  pub list_more : (moved : List ℕ) (n x : ℕ) {s : ℕ} → take n moved ≡ moved_below items held x → n < length moved → On held x → s ≡ symbol x → (s ≡ 0 → ⊥)
      → take (n + 1) (set moved n ((x + 1) * 128 + s)) ≡ moved_below items held (x + 1)
  list_more moved n x {s} e l on q f =
      ap (λ (m : ℕ). take m (set moved n ((x + 1) * 128 + s))) (add-one n) ∙ take-suc-set moved n ((x + 1) * 128 + s) l
      ∙ ap (λ (m : List ℕ). m ++ ((x + 1) * 128 + s) ∷ []) e ∙ ap (λ (z : ℕ). moved_below items held x ++ ((x + 1) * 128 + z) ∷ []) q
      ∙ sym (below_more x on (λ z. f (q ∙ z)))

  pub in_below : (x : ℕ) {c : ℕ} → In c (moved_below items held x) → (y : ℕ) × (X : ℕ) × Moving items held x y X × (c ≡ (y + 1) * 128 + X)
  unfolding moved_below
  in_below zero m = elim m [ ]
  in_below (suc x) {c} m = go (in_either (moved_below items held x) m) (λ n. in_below x n)
    where
      go : In c (moved_below items held x) ⊎ In c (one x)
          → (In c (moved_below items held x) → (y : ℕ) × (X : ℕ) × Moving items held x y X × (c ≡ (y + 1) * 128 + X))
          → (y : ℕ) × (X : ℕ) × Moving items held (suc x) y X × (c ≡ (y + 1) * 128 + X)
      go (inl n) rec =
          let r = rec n in
          (r.0, r.1, record { low = omega (arith, r.2.low); flag = r.2.flag; symbol = r.2.symbol; filled = r.2.filled }, r.3)
      go (inr n) rec = let r = in_if x n in (x, symbol x, r.0, r.1)

  pub below_in : (x : ℕ) {y X : ℕ} → Moving items held x y X → In ((y + 1) * 128 + X) (moved_below items held x)
  unfolding moved_below
  below_in zero m = absurd (omega (arith, m.low))
  below_in (suc x) {y} {X} m = go (ℕ_discrete y x) (λ l. below_in x (record { low = l; flag = m.flag; symbol = m.symbol; filled = m.filled }))
    where
      here_it : (y : ℕ) → y ≡ x → On held y → symbol y ≡ X → (X ≡ 0 → ⊥) → In ((y + 1) * 128 + X) (one x)
      here_it y e on q f =
          let on' : On held x = subst (On held) e on in
          let q' : symbol x ≡ X = ap symbol (sym e) ∙ q in
          let w : (y + 1) * 128 + X ≡ (x + 1) * 128 + symbol x = omega (arith, e, q') in
          subst (In ((y + 1) * 128 + X)) (sym (if_in x on' (λ z. f (sym q' ∙ z)))) (subst (λ (n : ℕ). In ((y + 1) * 128 + X) (n ∷ [])) w here)

      go : Dec (y ≡ x) → (y < x → In ((y + 1) * 128 + X) (moved_below items held x)) → In ((y + 1) * 128 + X) (moved_below items held x ++ one x)
      go (yes e) rec = in_right (moved_below items held x) (here_it y e m.flag m.symbol m.filled)
      go (no f) rec = in_left (one x) (rec (omega (arith, m.low, f)))

-- ---- what is picked from it

rising_end : (a : ℕ) (l : List ℕ) (z : ℕ) → RisingFrom a l → ((y : ℕ) → In y l → y < z) → a ≤ z → RisingFrom a (l ++ z ∷ [])
rising_end a [] z r h le = (le, tt)
rising_end a (x ∷ l) z r h le = (r.0, rising_end (suc x) l z r.1 (λ y m. h y (there m)) (h x here))

module _ (items held : List ℕ) (limit : ℕ) (low : (x : ℕ) → x < limit → symbol_after items (item_of x) (dot_of x) < 128) where
  pub in_picks : (X x : ℕ) → x ≤ limit → {y : ℕ} → In y (picked X (moved_below items held x)) → (z : ℕ) × (y ≡ suc z) × Moving items held x z X
  in_picks X x le {y} m =
      let p = in_picked X (moved_below items held x) m in
      let b = in_below items held x p.1 in
      let s = low b.0 (omega (arith, le, b.2.low)) in
      let w = b.2.symbol in
      let e : b.1 ≡ X = omega (arith, p.2, b.3) in
      let q : y ≡ suc b.0 = omega (arith, p.3, b.3) in
      (b.0, q, subst (Moving items held x b.0) e b.2)

  pub picks_rise : (X x : ℕ) → x ≤ limit → RisingFrom 0 (picked X (moved_below items held x))
  unfolding moved_below
  picks_rise X zero le = subst (RisingFrom 0) (sym (picked_none X)) tt
  picks_rise X (suc x) le =
      subst (RisingFrom 0) (sym (picked_and X (moved_below items held x) (one items held x)))
      (go (get_or held x 0) (symbol_after items (item_of x) (dot_of x)) (low x le) (picks_rise X x (omega (arith, le))))
    where
      below : (y : ℕ) → In y (picked X (moved_below items held x)) → y < x + 1
      below y m = let r = in_picks X x (omega (arith, le)) m in omega (arith, r.1, r.2.low)

      none : RisingFrom 0 (picked X (moved_below items held x)) → (l : List ℕ) → l ≡ [] → RisingFrom 0 (picked X (moved_below items held x) ++ l)
      none r l e = subst (λ (m : List ℕ). RisingFrom 0 (picked X (moved_below items held x) ++ m)) (sym e) (subst (RisingFrom 0) (sym (append-nil (picked X (moved_below items held x)))) r)

      last : (s : ℕ) → s < 128 → RisingFrom 0 (picked X (moved_below items held x)) → Dec (((x + 1) * 128 + s) % 128 ≡ X)
          → RisingFrom 0 (picked X (moved_below items held x) ++ picked X (((x + 1) * 128 + s) ∷ []))
      last s l r (no f) = none r (picked X (((x + 1) * 128 + s) ∷ [])) (picked_other X ((x + 1) * 128 + s) f)
      last s l r (yes e) =
          let z : ((x + 1) * 128 + s) / 128 ≡ x + 1 = omega (arith, l) in
          subst (λ (m : List ℕ). RisingFrom 0 (picked X (moved_below items held x) ++ m)) (sym (picked_one X ((x + 1) * 128 + s) e ∙ ap (λ (n : ℕ). n ∷ []) z))
          (rising_end 0 (picked X (moved_below items held x)) (x + 1) r below (omega arith))

      go : (f s : ℕ) → s < 128 → RisingFrom 0 (picked X (moved_below items held x)) → RisingFrom 0 (picked X (moved_below items held x) ++ picked X (moved_if x f s))
      go zero s l r = none r (picked X []) (picked_none X)
      go (suc f) zero l r = none r (picked X []) (picked_none X)
      go (suc f) (suc s) l r = last (suc s) l r (ℕ_discrete (((x + 1) * 128 + suc s) % 128) X)
