-- The moves of a kernel set, and the states, computed.
use Prim.Native.Nat.{ℕ, zero, suc, ◌+◌, ◌*◌, ◌/◌, ◌%◌, ◌≤◌}
use native.Mathlib.Omega.{arith}
use mathlib.Core.Path.{◌≡◌, refl, sym, ap, subst, ◌∙◌}
use mathlib.Core.Logic.{◌⊎◌, inl, inr}
use mathlib.Core.Bool.{Bool, true, false, cond, ◌&&◌}
use mathlib.Core.List.{List, [], ◌∷◌}
use mathlib.Core.Option.{Option, some, none}
use borrow.Author.Tests.{eqb-true, eq-eqb, ltb-true, ltb-false, eqb-false}
use lib.Dec.{eqb, ltb}
use lib.ListN.{length, get_or, drop}
use Rattle.language.specs.Grammar.{Grammar, Rule, at, rule_at}
use Rattle.language.specs.Sentence.{In, here, there}
use Rattle.language.proofs.Member.{in_cons}
use Rattle.language.specs.Rising.{RisingFrom}
use Rattle.leftcorner.proofs.ReadOff.{clash}
use Rattle.leftcorner.specs.Table.{Table, symbols_of, recognition_point, Goes}
use Rattle.build_states.specs.States.{Kernel, item_of, dot_of, range, find, leave}
use Rattle.build_computed.proofs.Work.{push_if, push_in, push_here, push_there, work}

-- ---- rising lists

abbrev pub place : Bool → Bool → ℕ → ℕ → List ℕ → List ℕ → List ℕ
place true e x y l m = x ∷ y ∷ l
place false true x y l m = y ∷ l
place false false x y l m = y ∷ m

abbrev pub insert : ℕ → List ℕ → List ℕ
insert x [] = x ∷ []
insert x (y ∷ l) = place (ltb x y) (eqb x y) x y l (insert x l)

pub insert_here : (x : ℕ) (l : List ℕ) → In x (insert x l)
insert_here x [] = here
insert_here x (y ∷ l) = go (ltb x y) (eqb x y) refl (insert_here x l)
  where
    go : (t e : Bool) → eqb x y ≡ e → In x (insert x l) → In x (place t e x y l (insert x l))
    go true e q rec = here
    go false true q rec = subst (λ (z : ℕ). In x (z ∷ l)) (eqb-true x y q) here
    go false false q rec = there rec

pub insert_there : (x z : ℕ) (l : List ℕ) → In z l → In z (insert x l)
insert_there x z (y ∷ l) m = go (ltb x y) (eqb x y) (in_cons m) (insert_there x z l)
  where
    go : (t e : Bool) → (z ≡ y) ⊎ In z l → (In z l → In z (insert x l)) → In z (place t e x y l (insert x l))
    go true e n rec = there m
    go false true n rec = m
    go false false (inl q) rec = subst (λ (w : ℕ). In z (w ∷ insert x l)) q here
    go false false (inr n) rec = there (rec n)
insert_there x z [] m = elim m [ ]

pub insert_in : (x z : ℕ) (l : List ℕ) → In z (insert x l) → (z ≡ x) ⊎ In z l
insert_in x z [] m = in_cons m
insert_in x z (y ∷ l) m = go (ltb x y) (eqb x y) m (insert_in x z l)
  where
    late : (z ≡ x) ⊎ In z l → (z ≡ x) ⊎ In z (y ∷ l)
    late (inl e) = inl e
    late (inr n) = inr (there n)

    one : (z ≡ y) ⊎ In z (insert x l) → (In z (insert x l) → (z ≡ x) ⊎ In z l) → (z ≡ x) ⊎ In z (y ∷ l)
    one (inl q) rec = inr (subst (λ (w : ℕ). In z (w ∷ l)) q here)
    one (inr n) rec = late (rec n)

    go : (t e : Bool) → In z (place t e x y l (insert x l)) → (In z (insert x l) → (z ≡ x) ⊎ In z l) → (z ≡ x) ⊎ In z (y ∷ l)
    go true e n rec = in_cons n
    go false true n rec = inr n
    go false false n rec = one (in_cons n) rec

pub insert_rising : (a x : ℕ) (l : List ℕ) → a ≤ x → RisingFrom a l → RisingFrom a (insert x l)
insert_rising a x [] h r = (h, tt)
insert_rising a x (y ∷ l) h r = go (ltb x y) (eqb x y) refl refl (λ k. insert_rising (suc y) x l k r.1)
  where
    go : (t e : Bool) → ltb x y ≡ t → eqb x y ≡ e → (suc y ≤ x → RisingFrom (suc y) (insert x l)) → RisingFrom a (place t e x y l (insert x l))
    go true e p q rec = (h, (omega (arith, ltb-true x y p), r.1))
    go false true p q rec = r
    go false false p q rec = (r.0, rec (omega (arith, ltb-false x y p, eqb-false x y q)))

abbrev pub insert_if : Bool → ℕ → List ℕ → List ℕ
insert_if true x l = insert x l
insert_if false x l = l

-- ---- items

abbrev pub same_mark : Option ℕ → ℕ → Bool
same_mark none k = false
same_mark (some m) k = eqb m k

abbrev pub unless_marked : Bool → List ℕ → List ℕ
unless_marked true l = []
unless_marked false l = l

-- the rules of X, as items with dot 0, where the first of the rules has number j
abbrev pub rules_for : ℕ → ℕ → List Rule → List ℕ
rules_for X j [] = []
rules_for X j (r ∷ rs) = push_if (eqb r.left X) (j * 16) (rules_for X (suc j) rs)

-- the moves of some items, each as symbol * 4096 + item
abbrev pub mover : List ℕ → ℕ → List ℕ → List ℕ
mover [] x l = l
mover (X ∷ β) x l = (X * 4096 + x) ∷ l

abbrev pub move_from : List ℕ → ℕ → Kernel
move_from [] X = []
move_from (y ∷ ms) X = insert_if (eqb (y / 4096) X) (suc (y % 4096)) (move_from ms X)

abbrev pub or_nothing : Option (List ℕ) → List ℕ
or_nothing none = []
or_nothing (some l) = l

abbrev pub is_some : Option (List ℕ) → Bool
is_some none = false
is_some (some l) = true

abbrev pub every : (Kernel → Bool) → List Kernel → Bool
every p [] = true
every p (k ∷ ks) = p k && every p ks

abbrev pub kernel_in : List Kernel → ℕ → Kernel
kernel_in ks zero = []
kernel_in ks (suc q) = get_or ks q []

-- the table is read only for its entries
module _ (g : Grammar) (b : Table) where
  -- the symbols behind an item's dot, where it may move
  abbrev pub rest : ℕ → List ℕ
  rest x = unless_marked (same_mark (recognition_point g b (item_of x)) (dot_of x)) (drop (dot_of x) (symbols_of g b (item_of x)))

  abbrev pub starts_of : List ℕ → List ℕ
  starts_of [] = []
  starts_of (X ∷ β) = rules_for X 1 g.rules

  abbrev pub next_items : ℕ → List ℕ
  next_items x = starts_of (rest x)

  abbrev pub closure : Kernel → Option (List ℕ)
  closure k = work next_items 4096 k []

  abbrev pub movers_of : List ℕ → List ℕ
  movers_of [] = []
  movers_of (x ∷ c) = mover (rest x) x (movers_of c)

  abbrev pub movers : Kernel → List ℕ
  movers k = movers_of (or_nothing (closure k))

  abbrev pub closes : Kernel → Bool
  closes k = is_some (closure k)

  -- the states, as `explore` finds them, by computed moves
  abbrev pub discover : ℕ → ℕ → List Kernel → List Kernel
  discover zero q ks = ks
  discover (suc f) q ks = cond (ltb q (length ks)) (discover f (suc q) (leave move_from (movers (get_or ks q [])) (range 1 127) ks)) ks

  abbrev pub goto_in : List Kernel → ℕ → ℕ → ℕ
  goto_in ks q X = suc (find (move_from (movers (kernel_in ks q)) X) ks)

  -- ---- what these say

  pub rest_goes : (x X : ℕ) (β : List ℕ) → rest x ≡ X ∷ β → Goes g b (item_of x) (dot_of x) X β
  rest_goes x X β e = go (recognition_point g b (item_of x)) refl e
    where
      free : (m : ℕ) (t : Bool) → eqb m (dot_of x) ≡ t → unless_marked t (drop (dot_of x) (symbols_of g b (item_of x))) ≡ X ∷ β
          → recognition_point g b (item_of x) ≡ some m → Goes g b (item_of x) (dot_of x) X β
      free m true q h p = clash cc
      free m false q h p = record { before = h; unmarked = λ k. let z : some m ≡ some (dot_of x) = sym p ∙ k in eqb-false m (dot_of x) q cc }

      go : (o : Option ℕ) → recognition_point g b (item_of x) ≡ o
          → unless_marked (same_mark o (dot_of x)) (drop (dot_of x) (symbols_of g b (item_of x))) ≡ X ∷ β → Goes g b (item_of x) (dot_of x) X β
      go none p h = record { before = h; unmarked = λ k. let z : none ≡ some (dot_of x) = sym p ∙ k in clash cc }
      go (some m) p h = free m (eqb m (dot_of x)) refl h p

  pub goes_rest : (x X : ℕ) (β : List ℕ) → Goes g b (item_of x) (dot_of x) X β → rest x ≡ X ∷ β
  goes_rest x X β h = go (recognition_point g b (item_of x)) refl ∙ h.before
    where
      free : (m : ℕ) (t : Bool) → eqb m (dot_of x) ≡ t → recognition_point g b (item_of x) ≡ some m
          → unless_marked t (drop (dot_of x) (symbols_of g b (item_of x))) ≡ drop (dot_of x) (symbols_of g b (item_of x))
      free m true q p = absurd (h.unmarked (p ∙ ap (λ (z : ℕ). some z) (eqb-true m (dot_of x) q)))
      free m false q p = refl

      go : (o : Option ℕ) → recognition_point g b (item_of x) ≡ o
          → unless_marked (same_mark o (dot_of x)) (drop (dot_of x) (symbols_of g b (item_of x))) ≡ drop (dot_of x) (symbols_of g b (item_of x))
      go none p = refl
      go (some m) p = free m (eqb m (dot_of x)) refl p

-- a rule of X
pub record RuleOf (g : Grammar) (X y : ℕ) : Type 0 where
  pub number : ℕ
  pub by : Rule
  pub is : y ≡ number * 16
  pub stands : rule_at g number ≡ some by
  pub of : by.left ≡ X

rules_at : (X j : ℕ) (rs : List Rule) (y : ℕ) → In y (rules_for X j rs)
    → (n : ℕ) × (r : Rule) × (y ≡ (j + n) * 16) × (at rs n ≡ some r) × (r.left ≡ X)
rules_at X j [] y m = elim m [ ]
rules_at X j (r ∷ rs) y m = go (push_in (eqb r.left X) (j * 16) (rules_for X (suc j) rs) y m) (rules_at X (suc j) rs y)
  where
    go : ((eqb r.left X ≡ true) × (y ≡ j * 16)) ⊎ In y (rules_for X (suc j) rs)
        → (In y (rules_for X (suc j) rs) → (n : ℕ) × (q : Rule) × (y ≡ (suc j + n) * 16) × (at rs n ≡ some q) × (q.left ≡ X))
        → (n : ℕ) × (q : Rule) × (y ≡ (j + n) * 16) × (at (r ∷ rs) n ≡ some q) × (q.left ≡ X)
    go (inl h) rec = (0, r, omega (arith, h.1), refl, eqb-true r.left X h.0)
    go (inr n) rec = let k = rec n in (suc k.0, k.1, omega (arith, k.2), k.3, k.4)

pub rules_of : (g : Grammar) (X y : ℕ) → In y (rules_for X 1 g.rules) → RuleOf g X y
rules_of g X y m =
    let k = rules_at X 1 g.rules y m in record { number = suc k.0; by = k.1; is = omega (arith, k.2); stands = k.3; of = k.4 }

at_rules : (X j : ℕ) (rs : List Rule) (n : ℕ) (r : Rule) → at rs n ≡ some r → r.left ≡ X → In ((j + n) * 16) (rules_for X j rs)
at_rules X j [] n r e l = clash cc
at_rules X j (q ∷ rs) zero r e l =
    let z : q ≡ r = cc in
    let w : j * 16 ≡ (j + 0) * 16 = omega arith in
    subst (λ (k : ℕ). In k (rules_for X j (q ∷ rs))) w (push_here (eqb q.left X) (j * 16) (rules_for X (suc j) rs)
    (eq-eqb q.left X (ap (λ (s : Rule). s.left) z ∙ l)))
at_rules X j (q ∷ rs) (suc n) r e l =
    let w : (suc j + n) * 16 ≡ (j + suc n) * 16 = omega arith in
    subst (λ (k : ℕ). In k (rules_for X j (q ∷ rs))) w (push_there (eqb q.left X) (j * 16) (at_rules X (suc j) rs n r e l))

pub of_rules : (g : Grammar) (X j : ℕ) (r : Rule) → rule_at g j ≡ some r → r.left ≡ X → In (j * 16) (rules_for X 1 g.rules)
of_rules g X zero r e l = clash cc
of_rules g X (suc n) r e l =
    let w : (1 + n) * 16 ≡ suc n * 16 = omega arith in subst (λ (k : ℕ). In k (rules_for X 1 g.rules)) w (at_rules X 1 g.rules n r e l)

-- ---- computed moves

module _ (g : Grammar) (b : Table) where
  pub movers_in : (c : List ℕ) (y : ℕ) → In y (movers_of g b c) → (x : ℕ) × (X : ℕ) × (β : List ℕ) × In x c × (rest g b x ≡ X ∷ β) × (y ≡ X * 4096 + x)
  movers_in [] y m = elim m [ ]
  movers_in (x ∷ c) y m = go (rest g b x) refl m (movers_in c y)
    where
      Made : List ℕ → Type 0
      Made d = (z : ℕ) × (X : ℕ) × (β : List ℕ) × In z d × (rest g b z ≡ X ∷ β) × (y ≡ X * 4096 + z)

      late : Made c → Made (x ∷ c)
      late k = (k.0, k.1, k.2, there k.3, k.4, k.5)

      one : (X : ℕ) (β : List ℕ) → rest g b x ≡ X ∷ β → (y ≡ X * 4096 + x) ⊎ In y (movers_of g b c) → (In y (movers_of g b c) → Made c) → Made (x ∷ c)
      one X β e (inl q) rec = (x, X, β, here, e, q)
      one X β e (inr n) rec = late (rec n)

      go : (l : List ℕ) → rest g b x ≡ l → In y (mover l x (movers_of g b c)) → (In y (movers_of g b c) → Made c) → Made (x ∷ c)
      go [] e n rec = late (rec n)
      go (X ∷ β) e n rec = one X β e (in_cons n) rec

  mover_there : (l : List ℕ) (x : ℕ) {m : List ℕ} {y : ℕ} → In y m → In y (mover l x m)
  mover_there [] x n = n
  mover_there (X ∷ β) x n = there n

  pub in_movers : (c : List ℕ) (x X : ℕ) (β : List ℕ) → In x c → rest g b x ≡ X ∷ β → In (X * 4096 + x) (movers_of g b c)
  in_movers (z ∷ c) x X β here e = subst (λ (l : List ℕ). In (X * 4096 + x) (mover l x (movers_of g b c))) (sym e) here
  in_movers (z ∷ c) x X β (there m) e = mover_there (rest g b z) z (in_movers c x X β m e)
  in_movers [] x X β m e = elim m [ ]

pub from_in : (ms : List ℕ) (X z : ℕ) → In z (move_from ms X) → (y : ℕ) × In y ms × (y / 4096 ≡ X) × (z ≡ suc (y % 4096))
from_in [] X z m = elim m [ ]
from_in (y ∷ ms) X z m = go (eqb (y / 4096) X) refl m (from_in ms X z)
  where
    Made : List ℕ → Type 0
    Made l = (w : ℕ) × In w l × (w / 4096 ≡ X) × (z ≡ suc (w % 4096))

    late : Made ms → Made (y ∷ ms)
    late k = (k.0, there k.1, k.2, k.3)

    one : y / 4096 ≡ X → (z ≡ suc (y % 4096)) ⊎ In z (move_from ms X) → (In z (move_from ms X) → Made ms) → Made (y ∷ ms)
    one e (inl q) rec = (y, here, e, q)
    one e (inr n) rec = late (rec n)

    go : (t : Bool) → eqb (y / 4096) X ≡ t → In z (insert_if t (suc (y % 4096)) (move_from ms X)) → (In z (move_from ms X) → Made ms) → Made (y ∷ ms)
    go true e n rec = one (eqb-true (y / 4096) X e) (insert_in (suc (y % 4096)) z (move_from ms X) n) rec
    go false e n rec = late (rec n)

pub insert_late : (t : Bool) (x z : ℕ) (l : List ℕ) → In z l → In z (insert_if t x l)
insert_late true x z l m = insert_there x z l m
insert_late false x z l m = m

pub in_from : (ms : List ℕ) (X y : ℕ) → In y ms → y / 4096 ≡ X → In (suc (y % 4096)) (move_from ms X)
in_from (w ∷ ms) X y here e =
    subst (λ (t : Bool). In (suc (y % 4096)) (insert_if t (suc (y % 4096)) (move_from ms X))) (sym (eq-eqb (y / 4096) X e))
    (insert_here (suc (y % 4096)) (move_from ms X))
in_from (w ∷ ms) X y (there m) e = insert_late (eqb (w / 4096) X) (suc (w % 4096)) (suc (y % 4096)) (move_from ms X) (in_from ms X y m e)
in_from [] X y m e = elim m [ ]

pub from_rising : (ms : List ℕ) (X : ℕ) → RisingFrom 0 (move_from ms X)
from_rising [] X = tt
from_rising (y ∷ ms) X = go (eqb (y / 4096) X) (from_rising ms X)
  where
    go : (t : Bool) → RisingFrom 0 (move_from ms X) → RisingFrom 0 (insert_if t (suc (y % 4096)) (move_from ms X))
    go true r = insert_rising 0 (suc (y % 4096)) (move_from ms X) (omega arith) r
    go false r = r
