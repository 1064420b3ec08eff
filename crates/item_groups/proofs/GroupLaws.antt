-- Where a rule's groups stand in its string.
use Prim.Native.Nat.{ℕ, zero, suc, ◌+◌, ◌-◌, ◌≤◌, ◌<◌}
use mathlib.Core.Path.{◌≡◌, refl, sym, ap, ap₂, subst, ◌∙◌}
use mathlib.Core.List.{List, [], ◌∷◌, ◌++◌, append_assoc, append-nil}
use native.Mathlib.Decide.{dec_lt}
use native.Mathlib.Omega.{arith}
use lib.ListN.{length, get_or, replicate, length-append, length-replicate, get_or-append}
use lib.Seq.{get_or-append-add}
use Rattle.language.specs.Grammar.{Grammar, Rule, right, concat}
use Rattle.language.specs.Sentence.{In, here, there}
use Rattle.language.specs.WellFormed.{RuleFormed}
use Rattle.language.proofs.Member.{in_right}
use Rattle.language.proofs.Lists.{concat-++}
use Rattle.items.specs.Layout.{group_start, group_starts, starts_of, length_at, RuleIn}
use Rattle.items.proofs.GrowLaws.{start_length, starts_length}
use Rattle.items.proofs.StoreLaws.{read_zeros}
use Rattle.item_groups.specs.Groups.{GroupEnd, PartIs}

starts_++ : (δs εs : List (List ℕ)) → group_starts (δs ++ εs) ≡ group_starts δs ++ group_starts εs
starts_++ [] εs = refl
starts_++ (δ ∷ δs) εs = ap (λ (l : List ℕ). group_start δ ++ l) (starts_++ δs εs) ∙ sym (append_assoc (group_start δ) (group_starts δs) (group_starts εs))

-- a group begins with a mark, and has no other
start_later : (γ : List ℕ) (m : ℕ) → 0 < m → get_or (group_start γ) m 0 ≡ 0
start_later [] m l = refl
start_later (X ∷ γ) zero l = absurd (omega arith)
start_later (X ∷ γ) (suc m) l = read_zeros (length γ) m

start_first : (εs : List (List ℕ)) → ((ε : List ℕ) → In ε εs → ε ≡ [] → ⊥) → 0 < length (concat εs) → get_or (group_starts εs) 0 0 ≡ 1
start_first [] f l = absurd (omega arith)
start_first ([] ∷ εs) f l = absurd (f [] here refl)
start_first ((X ∷ ε) ∷ εs) f l = refl

module _ (r : Rule) (δs : List (List ℕ)) where
  -- where what follows the groups δs begins
  abbrev pub base_of : ℕ
  base_of = length r.before + length (concat δs)

  module _ (εs : List (List ℕ)) (split : r.groups ≡ δs ++ εs) where
    right_is : right r ≡ (r.before ++ concat δs) ++ concat εs
    right_is = ap (λ (l : List (List ℕ)). r.before ++ concat l) split ∙ (ap (λ (l : List ℕ). r.before ++ l) (concat-++ δs εs) ∙ sym (append_assoc r.before (concat δs) (concat εs)))

    front_length : length (r.before ++ concat δs) ≡ base_of
    front_length = length-append r.before (concat δs)

    pub right-length : length (right r) ≡ base_of + length (concat εs)
    right-length = ap length right_is ∙ (length-append (r.before ++ concat δs) (concat εs) ∙ ap (λ (n : ℕ). n + length (concat εs)) front_length)

    pub right_at : (m : ℕ) → get_or (right r) (base_of + m) 0 ≡ get_or (concat εs) m 0
    right_at m = ap (λ (l : List ℕ). get_or l (base_of + m) 0) right_is
        ∙ (ap (λ (n : ℕ). get_or ((r.before ++ concat δs) ++ concat εs) (n + m) 0) (sym front_length) ∙ get_or-append-add (r.before ++ concat δs) (concat εs) m 0)

    starts_is : starts_of r ≡ (replicate (length r.before) 0 ++ group_starts δs) ++ group_starts εs
    starts_is = ap (λ (l : List (List ℕ)). replicate (length r.before) 0 ++ group_starts l) split
        ∙ (ap (λ (l : List ℕ). replicate (length r.before) 0 ++ l) (starts_++ δs εs) ∙ sym (append_assoc (replicate (length r.before) 0) (group_starts δs) (group_starts εs)))

    marks_length : length (replicate {A = ℕ} (length r.before) 0 ++ group_starts δs) ≡ base_of
    marks_length = length-append (replicate {A = ℕ} (length r.before) 0) (group_starts δs)
        ∙ ap₂ ◌+◌ (length-replicate {A = ℕ} (length r.before) 0) (starts_length δs)

    starts_at : (m : ℕ) → get_or (starts_of r) (base_of + m) 0 ≡ get_or (group_starts εs) m 0
    starts_at m = ap (λ (l : List ℕ). get_or l (base_of + m) 0) starts_is
        ∙ (ap (λ (n : ℕ). get_or ((replicate (length r.before) 0 ++ group_starts δs) ++ group_starts εs) (n + m) 0) (sym marks_length)
        ∙ get_or-append-add (replicate (length r.before) 0 ++ group_starts δs) (group_starts εs) m 0)

  module _ (γ : List ℕ) (εs : List (List ℕ)) (split : r.groups ≡ δs ++ γ ∷ εs) where
    pub symbol_at_lem : (m : ℕ) → m < length γ → get_or (right r) (base_of + m) 0 ≡ get_or γ m 0
    symbol_at_lem m l = right_at (γ ∷ εs) split m ∙ get_or-append γ (concat εs) 0 m l

    start_inside : (m : ℕ) → 0 < m → m < length γ → get_or (starts_of r) (base_of + m) 0 ≡ 0
    start_inside m a l =
        starts_at (γ ∷ εs) split m ∙ (get_or-append (group_start γ) (group_starts εs) 0 m (omega (arith, start_length γ)) ∙ start_later γ m a)

    start_behind : ((ε : List ℕ) → In ε εs → ε ≡ [] → ⊥) → 0 < length (concat εs) → get_or (starts_of r) (base_of + length γ) 0 ≡ 1
    start_behind f l =
        starts_at (γ ∷ εs) split (length γ)
        ∙ (ap (λ (n : ℕ). get_or (group_start γ ++ group_starts εs) n 0) (let z : length γ ≡ length (group_start γ) + 0 = omega (arith, start_length γ) in z)
        ∙ (get_or-append-add (group_start γ) (group_starts εs) 0 0 ∙ start_first εs f l))

    group_length : length (right r) ≡ base_of + length γ + length (concat εs)
    group_length = omega (arith, right-length (γ ∷ εs) split, length-append γ (concat εs))

    -- the end that is read off the marks is the group's
    pub end_is : {items : List ℕ} {i from to : ℕ} → RuleIn items i r → length (right r) ≤ 15 → ((ε : List ℕ) → In ε εs → ε ≡ [] → ⊥)
        → 1 ≤ length γ → from ≡ base_of → GroupEnd items i from to → to ≡ base_of + length γ
    end_is {items} {i} {from} {to} w short f filled ef h = go (dec_lt to (base_of + length γ)) (dec_lt (base_of + length γ) to)
      where
        go : Dec (to < base_of + length γ) → Dec (base_of + length γ < to) → to ≡ base_of + length γ
        go (yes l) d =
            let m = to - base_of in
            let back : base_of + m ≡ to = omega (arith, h.past) in
            let low : to < length_at items i = omega (arith, w.length_is, group_length) in
            absurd (h.edge low (w.start_is to (omega (arith, w.length_is))
            ∙ (ap (λ (n : ℕ). get_or (starts_of r) n 0) (sym back) ∙ start_inside m (omega (arith, h.past)) (omega arith))))
        go (no a) (yes l) =
            let z = h.inside (base_of + length γ) (omega (arith, filled)) l in
            let one = start_behind f (omega (arith, h.within, w.length_is, group_length)) in
            absurd (omega (arith, sym (w.start_is (base_of + length γ) (omega (arith, h.within, w.length_is))) ∙ z, one))
        go (no a) (no b) = omega arith

-- ---- the groups one after the other
positive : (γ : List ℕ) → (γ ≡ [] → ⊥) → 1 ≤ length γ
positive [] f = absurd (f refl)
positive (X ∷ γ) f = omega arith

pub base_more : (r : Rule) (done : List (List ℕ)) (γ : List ℕ) → base_of r (done ++ γ ∷ []) ≡ base_of r done + length γ
base_more r done γ =
    omega (arith, ap length (concat-++ done (γ ∷ [])), length-append (concat done) (γ ++ []), ap length (append-nil γ))

-- the group of r that begins behind the groups `done`
pub record Current (r : Rule) (done todo : List (List ℕ)) (to : ℕ) : Type 0 where
  pub group : List ℕ
  pub others : List (List ℕ)
  pub next : todo ≡ group ∷ others
  pub split : r.groups ≡ done ++ group ∷ others
  pub is_group_lem : In group r.groups
  pub end : to ≡ base_of r done + length group

module _ {g : Grammar} {r : Rule} (formed : RuleFormed g r) {items : List ℕ} {i : ℕ} (w : RuleIn items i r) (done todo : List (List ℕ))
    (split : r.groups ≡ done ++ todo) {from : ℕ} (place : from ≡ base_of r done) where
  pub current : {to : ℕ} → from < length_at items i → GroupEnd items i from to → Current r done todo to
  current {to} l h = go todo split
    where
      go : (ts : List (List ℕ)) → r.groups ≡ done ++ ts → Current r done ts to
      go [] e = absurd (omega (arith, l, w.length_is, right-length r done [] e, place))
      go (γ ∷ εs) e =
          let inside : In γ r.groups = subst (In γ) (sym e) (in_right done here) in
          record {
            group = γ;
            others = εs;
            next = refl;
            split = e;
            is_group_lem = inside;
            end = end_is r done γ εs e w formed.short (λ ε m. formed.filled ε (subst (In ε) (sym e) (in_right done (there m))))
                (positive γ (formed.filled γ inside)) place h;
          }

  -- it is the part of the row up to its end
  pub current_part : {to : ℕ} (c : Current r done todo to) → GroupEnd items i from to → PartIs items i from (to - from) c.group
  current_part {to} c h = record {
    width = width;
    symbols = λ j b. w.symbol_is (from + j) (omega (arith, b, h.within, w.length_is, formed.short))
        ∙ (ap (λ (k : ℕ). get_or (right r) (k + j) 0) place ∙ symbol_at_lem r done c.group c.others c.split j (omega (arith, b, width)));
  }
    where
      width : length c.group ≡ to - from
      width = omega (arith, c.end, place)

  pub none_left : length_at items i ≤ from → todo ≡ []
  none_left l = go todo split
    where
      go : (ts : List (List ℕ)) → r.groups ≡ done ++ ts → ts ≡ []
      go [] e = refl
      go (γ ∷ εs) e =
          let some_symbol = positive γ (formed.filled γ (subst (In γ) (sym e) (in_right done here))) in
          absurd (omega (arith, l, w.length_is, right-length r done (γ ∷ εs) e, length-append γ (concat εs), place, some_symbol))
