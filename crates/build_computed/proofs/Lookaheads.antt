-- The lookaheads of the builder, computed: each as (state * 4096 + item) * 64 + code.
use Prim.Native.Nat.{ℕ, zero, suc, ◌+◌, ◌*◌, ◌/◌, ◌%◌, ◌≤◌, ◌<◌}
use native.Mathlib.Omega.{arith}
use mathlib.Core.Path.{◌≡◌, refl, sym, ap, subst, ◌∙◌}
use mathlib.Core.Logic.{◌⊎◌, inl, inr}
use mathlib.Core.Bool.{Bool, true, false, cond}
use mathlib.Core.List.{List, [], ◌∷◌, ◌++◌, map}
use mathlib.Core.Option.{Option, some, none}
use borrow.Author.Tests.{eqb-true, eq-eqb, le-leb}
use lib.Dec.{leb}
use lib.ListN.{length}
use Rattle.language.specs.Grammar.{Grammar, Rule, rule_at, concat}
use Rattle.language.specs.Sentence.{In, here, there}
use Rattle.language.proofs.Member.{in_cons, in_left, in_right, in_map, in_either}
use Rattle.language.proofs.GrammarLaws.{rule_range}
use Rattle.language.specs.WellFormed as grammar
use Rattle.leftcorner.proofs.ReadOff.{clash}
use Rattle.std.specs.Prelude.{◌↔◌}
use Rattle.leftcorner.specs.Table.{Table, entry_from, mark_of, groups_of, recognition_point}
use Rattle.leftcorner.specs.Construction.{entry_item}
use Rattle.analysis.specs.ByRules.{FirstByRules}
use Rattle.check_verdict.proofs.Closure.{image_in}
use Rattle.build_states.specs.Strings.{entry_strings}
use Rattle.build_states.proofs.EntryLaws.{entry_line, found_entry}
use Rattle.build_states.specs.States.{Kernel, item_of, dot_of, states, goto}
use Rattle.build_states.proofs.Limits.{bounded}
use Rattle.build_states.proofs.MoveLaws.{item_of_lem, dot_of_lem}
use Rattle.build_book.proofs.Carried.{group_wanted}
use Rattle.build_states.specs.Lookaheads.{bare, entry_of, Lookahead, of_goal, of_closure, of_move, of_group}
use Rattle.build_states.specs.Lookaheads.{terminal_codes}
use Rattle.build_states.proofs.CodeLaws.{first_in, codes_low}
use Rattle.build_computed.proofs.Work.{work, work_only, Whole, work_whole}
use Rattle.build_computed.proofs.First.{first_of}
use Rattle.build_computed.proofs.Moves.{same_mark, rules_for, every, rest, closes, goto_in, rest_goes, rules_of, of_rules}
use Rattle.build_computed.proofs.States.{movable, rest_at_lem, goto_computed}

abbrev pub look_code : ℕ → ℕ → ℕ → ℕ
look_code q x d = (q * 4096 + x) * 64 + d

-- a state's items with some codes
abbrev pub pair_up : ℕ → List ℕ → List ℕ → List ℕ
pair_up q [] cs = []
pair_up q (x ∷ xs) cs = map (look_code q x) cs ++ pair_up q xs cs

pub pair_in : (q : ℕ) (xs cs : List ℕ) (z : ℕ) → In z (pair_up q xs cs) → (x : ℕ) × (c : ℕ) × In x xs × In c cs × (z ≡ look_code q x c)
pair_in q [] cs z m = elim m [ ]
pair_in q (x ∷ xs) cs z m = go (in_either (map (look_code q x) cs) m) (pair_in q xs cs z)
  where
    go : In z (map (look_code q x) cs) ⊎ In z (pair_up q xs cs) → (In z (pair_up q xs cs) → (y : ℕ) × (c : ℕ) × In y xs × In c cs × (z ≡ look_code q y c))
        → (y : ℕ) × (c : ℕ) × In y (x ∷ xs) × In c cs × (z ≡ look_code q y c)
    go (inl n) rec = let c = in_map (look_code q x) cs n in (x, c.0, here, c.1, c.2)
    go (inr n) rec = let r = rec n in (r.0, r.1, there r.2, r.3, r.4)

pub in_pair : (q x c : ℕ) (xs cs : List ℕ) → In x xs → In c cs → In (look_code q x c) (pair_up q xs cs)
in_pair q x c (y ∷ xs) cs here n = in_left (pair_up q xs cs) (image_in (look_code q x) c cs n)
in_pair q x c (y ∷ xs) cs (there m) n = in_right (map (look_code q y) cs) (in_pair q x c xs cs m n)
in_pair q x c [] cs m n = elim m [ ]

module _ (g : Grammar) (b : Table) (nl fl : List ℕ) (ks : List Kernel) where
  abbrev pub entry_in : List ℕ → ℕ
  entry_in γ = entry_from 1 b.entries γ

  -- "if Q holds a rule at its recognition point with context σ, group j's entry context includes first(groups after j, σ)"
  abbrev pub on_groups : List (List ℕ) → ℕ → List ℕ
  on_groups [] d = []
  on_groups (γ ∷ εs) d = pair_up (entry_in γ) (((length g.rules + entry_in γ) * 16) ∷ []) (first_of nl fl (concat εs) d) ++ on_groups εs d

  abbrev pub at_mark : Bool → List (List ℕ) → ℕ → List ℕ
  at_mark true γs d = on_groups γs d
  at_mark false γs d = []

  abbrev pub on_rest : List ℕ → ℕ → ℕ → ℕ → List ℕ
  on_rest [] q x d = []
  on_rest (X ∷ β) q x d = look_code (goto_in g b ks q X) (suc x) d ∷ pair_up q (rules_for X 1 g.rules) (first_of nl fl β d)

  abbrev pub is_marked : ℕ → Bool
  is_marked x = same_mark (recognition_point g b (item_of x)) (dot_of x)

  abbrev pub next_at : ℕ → ℕ → ℕ → List ℕ
  next_at q x d = on_rest (rest g b x) q x d ++ at_mark (is_marked x) (groups_of (rule_at g (item_of x))) d

  abbrev pub next_looks : ℕ → List ℕ
  next_looks y = next_at (y / 262144) (y / 64 % 4096) (y % 64)

  -- "The goal's entry context includes 0."
  abbrev pub goal_look : List ℕ
  goal_look = look_code 1 ((length g.rules + 1) * 16) 0 ∷ []

  abbrev pub looks : ℕ → Option (List ℕ)
  looks f = work next_looks f goal_look []

  -- ---- groups

  pub groups_in : (γs : List (List ℕ)) (d z : ℕ) → In z (on_groups γs d)
      → (δs : List (List ℕ)) × (γ : List ℕ) × (εs : List (List ℕ)) × (c : ℕ) × (γs ≡ δs ++ γ ∷ εs) × In c (first_of nl fl (concat εs) d)
      × (z ≡ look_code (entry_in γ) ((length g.rules + entry_in γ) * 16) c)
  groups_in [] d z m = elim m [ ]
  groups_in (γ ∷ γs) d z m =
      go (in_either (pair_up (entry_in γ) (((length g.rules + entry_in γ) * 16) ∷ []) (first_of nl fl (concat γs) d)) m) (groups_in γs d z)
    where
      Made : List (List ℕ) → Type 0
      Made l = (δs : List (List ℕ)) × (γ : List ℕ) × (εs : List (List ℕ)) × (c : ℕ) × (l ≡ δs ++ γ ∷ εs) × In c (first_of nl fl (concat εs) d)
          × (z ≡ look_code (entry_in γ) ((length g.rules + entry_in γ) * 16) c)

      one : (x : ℕ) → (x ≡ (length g.rules + entry_in γ) * 16) ⊎ In x [] → (c : ℕ) → In c (first_of nl fl (concat γs) d)
          → z ≡ look_code (entry_in γ) x c → Made (γ ∷ γs)
      one x (inl e) c n q = ([], γ, γs, c, refl, n, q ∙ ap (λ (k : ℕ). look_code (entry_in γ) k c) e)
      one x (inr k) c n q = elim k [ ]

      go : In z (pair_up (entry_in γ) (((length g.rules + entry_in γ) * 16) ∷ []) (first_of nl fl (concat γs) d)) ⊎ In z (on_groups γs d)
          → (In z (on_groups γs d) → Made γs) → Made (γ ∷ γs)
      go (inl n) rec =
          let p = pair_in (entry_in γ) (((length g.rules + entry_in γ) * 16) ∷ []) (first_of nl fl (concat γs) d) z n in
          one p.0 (in_cons p.2) p.1 p.3 p.4
      go (inr n) rec = let r = rec n in (γ ∷ r.0, r.1, r.2, r.3, ap (λ (l : List (List ℕ)). γ ∷ l) r.4, r.5, r.6)

  pub in_groups : (δs : List (List ℕ)) (γ : List ℕ) (εs : List (List ℕ)) (d c : ℕ) → In c (first_of nl fl (concat εs) d)
      → In (look_code (entry_in γ) ((length g.rules + entry_in γ) * 16) c) (on_groups (δs ++ γ ∷ εs) d)
  in_groups [] γ εs d c m =
      in_left (on_groups εs d) (in_pair (entry_in γ) ((length g.rules + entry_in γ) * 16) c (((length g.rules + entry_in γ) * 16) ∷ [])
      (first_of nl fl (concat εs) d) here m)
  in_groups (δ ∷ δs) γ εs d c m =
      in_right (pair_up (entry_in δ) (((length g.rules + entry_in δ) * 16) ∷ []) (first_of nl fl (concat (δs ++ γ ∷ εs)) d)) (in_groups δs γ εs d c m)

  -- ---- the recognition point

  pub mark_rule : (i k : ℕ) → same_mark (recognition_point g b i) k ≡ true → (r : Rule) × (rule_at g i ≡ some r) × (length r.before ≡ k)
  mark_rule i k e = go (leb i (length g.rules)) e
    where
      rule : (o : Option Rule) → rule_at g i ≡ o → same_mark (mark_of o) k ≡ true → (r : Rule) × (rule_at g i ≡ some r) × (length r.before ≡ k)
      rule none q h = clash cc
      rule (some r) q h = (r, q, eqb-true (length r.before) k h)

      go : (t : Bool) → same_mark (cond t (mark_of (rule_at g i)) none) k ≡ true → (r : Rule) × (rule_at g i ≡ some r) × (length r.before ≡ k)
      go true h = rule (rule_at g i) refl h
      go false h = clash cc

  pub rule_mark : (i : ℕ) (r : Rule) → rule_at g i ≡ some r → same_mark (recognition_point g b i) (length r.before) ≡ true
  rule_mark i r e =
      let t = le-leb i (length g.rules) (rule_range g i e).1 in
      ap (λ (t : Bool). same_mark (cond t (mark_of (rule_at g i)) none) (length r.before)) t
      ∙ ap (λ (o : Option Rule). same_mark (mark_of o) (length r.before)) e ∙ eq-eqb (length r.before) (length r.before) refl

module _ (g : Grammar) (W : grammar.WellFormed g) (few : length (entry_strings g) ≤ 127) (ks : List Kernel) (same : states g ≡ ks)
    (ok : every (closes g (bare g)) ks ≡ true) (nl fl : List ℕ) (F_is : (β : List ℕ) (d c : ℕ) → In c (first_of nl fl β d) ↔ FirstByRules g β d c) where
  abbrev Looked : ℕ → ℕ → ℕ → ℕ → Type 0
  Looked q i k d = Lookahead g (FirstByRules g) q i k d

  -- what a number says
  abbrev Says : ℕ → Type 0
  Says y = Looked (y / 262144) (item_of (y / 64 % 4096)) (dot_of (y / 64 % 4096)) (y % 64)

  says : (y q x d i k : ℕ) → y ≡ look_code q x d → x < 4096 → d < 64 → i ≡ item_of x → k ≡ dot_of x → Looked q i k d → Says y
  says y q x d i k e l h a b m =
      let q' : q ≡ y / 262144 = omega (arith, e, l, h) in
      let x' : x ≡ y / 64 % 4096 = omega (arith, e, l, h) in
      let d' : d ≡ y % 64 = omega (arith, e, h) in
      subst (λ (z : ℕ). Looked z (item_of (y / 64 % 4096)) (dot_of (y / 64 % 4096)) (y % 64)) q'
      (subst (λ (z : ℕ). Looked q (item_of z) (dot_of z) (y % 64)) x' (subst (λ (z : ℕ). Looked q (item_of x) (dot_of x) z) d'
      (subst (λ (z : ℕ). Looked q z (dot_of x) d) a (subst (λ (z : ℕ). Looked q i z d) b m))))

  first_low : (β : List ℕ) (d c : ℕ) → d < 64 → FirstByRules g β d c → c < 64
  first_low β d c l f = go (first_in g β d c f)
    where
      go : (c ≡ d) ⊎ In c (terminal_codes g) → c < 64
      go (inl e) = omega (arith, l, e)
      go (inr m) = omega (arith, codes_low g c m, W.few_terminals)

  record Entry (γ : List ℕ) : Type 0 where
    low : 1 ≤ entry_of g γ
    high : entry_of g γ ≤ 127

  entry : (i : ℕ) {r : Rule} (δs : List (List ℕ)) (γ : List ℕ) (εs : List (List ℕ)) → rule_at g i ≡ some r → r.groups ≡ δs ++ γ ∷ εs → Entry γ
  entry i δs γ εs e p =
      let w = entry_line g (bare g) refl (entry_of g γ) (found_entry g (bare g) refl (group_wanted g i δs γ εs e p)) in
      record { low = w.1; high = omega (arith, w.2, few) }

  -- ---- what is computed is a lookahead

  step_says : (q x d y : ℕ) → d < 64 → Looked q (item_of x) (dot_of x) d → In y (next_at g (bare g) nl fl ks q x d) → Says y
  step_says q x d y low h m = either (in_either (on_rest g (bare g) nl fl ks (rest g (bare g) x) q x d) m)
    where
      by_rule : (X : ℕ) (β : List ℕ) → rest g (bare g) x ≡ X ∷ β → (j c : ℕ) → In j (rules_for X 1 g.rules) → In c (first_of nl fl β d)
          → y ≡ look_code q j c → Says y
      by_rule X β e j c n f p =
          let r = rules_of g X j n in
          let F = (F_is β d c).0 f in
          let k = rule_range g r.number r.stands in
          says y q j c r.number zero p (omega (arith, r.is, k.1, W.few_rules)) (first_low β d c low F) (omega (arith, r.is))
          (omega (arith, r.is))
          (of_closure r.number h (rest_goes g (bare g) x X β e) r.stands r.of F)

      moving : (X : ℕ) (β : List ℕ) → rest g (bare g) x ≡ X ∷ β
          → (y ≡ look_code (goto_in g (bare g) ks q X) (suc x) d) ⊎ In y (pair_up q (rules_for X 1 g.rules) (first_of nl fl β d)) → Says y
      moving X β e (inl p) =
          let b = movable g W few x X β e in
          says y (goto g q X) (suc x) d (item_of x) (suc (dot_of x))
          (p ∙ ap (λ (z : ℕ). look_code z (suc x) d) (sym (goto_computed g W few ks same ok q X))) (omega (arith, b.low, b.dot)) low
          (omega (arith, b.dot)) (omega (arith, b.dot)) (of_move h (rest_goes g (bare g) x X β e))
      moving X β e (inr n) = let p = pair_in q (rules_for X 1 g.rules) (first_of nl fl β d) y n in by_rule X β e p.0 p.1 p.2 p.3 p.4

      on : (l : List ℕ) → rest g (bare g) x ≡ l → In y (on_rest g (bare g) nl fl ks l q x d) → Says y
      on [] e n = elim n [ ]
      on (X ∷ β) e n = moving X β e (in_cons n)

      marked : (t : Bool) → is_marked g (bare g) nl fl ks x ≡ t → In y (at_mark g (bare g) nl fl ks t (groups_of (rule_at g (item_of x))) d) → Says y
      marked false e n = elim n [ ]
      marked true e n =
          let r = mark_rule g (bare g) nl fl ks (item_of x) (dot_of x) e in
          let p = groups_in g (bare g) nl fl ks (groups_of (rule_at g (item_of x))) d y n in
          let s : r.0.groups ≡ p.0 ++ p.1 ∷ p.2 = sym (ap groups_of r.1) ∙ p.4 in
          let F = (F_is (concat p.2) d p.3).0 p.5 in
          let v = entry (item_of x) p.0 p.1 p.2 r.1 s in
          says y (entry_of g p.1) ((length g.rules + entry_of g p.1) * 16) p.3 (entry_item g (bare g) (entry_of g p.1)) zero p.6
          (omega (arith, v.high, W.few_rules)) (first_low (concat p.2) d p.3 low F)
          (omega arith) (omega arith) (of_group (item_of x) p.0 p.1 p.2 r.1
          (subst (λ (z : ℕ). Looked q (item_of x) z d) (sym r.2) h) s F)

      either : In y (on_rest g (bare g) nl fl ks (rest g (bare g) x) q x d)
          ⊎ In y (at_mark g (bare g) nl fl ks (is_marked g (bare g) nl fl ks x) (groups_of (rule_at g (item_of x))) d) → Says y
      either (inl n) = on (rest g (bare g) x) refl n
      either (inr n) = marked (is_marked g (bare g) nl fl ks x) refl n

  module _ (f : ℕ) (ls : List ℕ) (e : looks g (bare g) nl fl ks f ≡ some ls) where
    pub looks_only : (y : ℕ) → In y ls → Lookahead g (FirstByRules g) (y / 262144) (item_of (y / 64 % 4096)) (dot_of (y / 64 % 4096)) (y % 64)
    looks_only =
        work_only (next_looks g (bare g) nl fl ks) Says (λ x y h m. step_says (x / 262144) (x / 64 % 4096) (x % 64) y (omega arith) h m) f
        (goal_look g (bare g) nl fl ks) [] ls e
        (λ x m. goal x (in_cons m)) (λ x m. elim m [ ])
      where
        goal : (x : ℕ) → (x ≡ look_code 1 ((length g.rules + 1) * 16) 0) ⊎ In x [] → Says x
        goal x (inl p) =
            says x 1 ((length g.rules + 1) * 16) 0 (entry_item g (bare g) 1) zero p (omega (arith, W.few_rules)) (omega arith) (omega arith)
            (omega arith) of_goal
        goal x (inr n) = elim n [ ]

    -- ---- and every lookahead is computed

    pub record Listed (q i k d : ℕ) : Type 0 where
      pub dot : k < 16
      pub item : i * 16 + k < 4096
      pub code : d < 64
      pub stands : In (look_code q (i * 16 + k) d) ls

    w : Whole (next_looks g (bare g) nl fl ks) (goal_look g (bare g) nl fl ks) [] ls
    w = work_whole (next_looks g (bare g) nl fl ks) f (goal_look g (bare g) nl fl ks) [] ls e (λ x y m n. elim m [ ])

    onward : (q x d z : ℕ) → x < 4096 → d < 64 → In (look_code q x d) ls → In z (next_at g (bare g) nl fl ks q x d) → In z ls
    onward q x d z l h m n =
        let y = look_code q x d in
        let q' : q ≡ y / 262144 = omega (arith, l, h) in
        let x' : x ≡ y / 64 % 4096 = omega (arith, l, h) in
        let d' : d ≡ y % 64 = omega (arith, h) in
        w.closed y z m (subst (λ (a : ℕ). In z (next_at g (bare g) nl fl ks a (y / 64 % 4096) (y % 64))) q'
        (subst (λ (a : ℕ). In z (next_at g (bare g) nl fl ks q a (y % 64))) x' (subst (λ (a : ℕ). In z (next_at g (bare g) nl fl ks q x a)) d' n)))

    pub listed : {q i k d : ℕ} → Lookahead g (FirstByRules g) q i k d → Listed q i k d
    listed of_goal =
        let z : look_code 1 ((length g.rules + 1) * 16) 0 ≡ look_code 1 ((length g.rules + 1) * 16 + zero) 0 = omega arith in
        record { dot = omega arith; item = omega (arith, W.few_rules); code = omega arith; stands = subst (λ (a : ℕ). In a ls) z (w.did _ here) }
    listed (of_closure {q = q} {i = i} {k = k} {d = d} {X = X} j {c = c} {β = β} {r = r} h go p l F) =
        let v = listed h in
        let t = rest_at_lem g W few go in
        let n = in_pair q (j * 16) c (rules_for X 1 g.rules) (first_of nl fl β d) (of_rules g X j r p l) ((F_is β d c).1 F) in
        let m = onward q (i * 16 + k) d (look_code q (j * 16) c) v.item v.code v.stands
        (in_left (at_mark g (bare g) nl fl ks (is_marked g (bare g) nl fl ks (i * 16 + k)) (groups_of (rule_at g (item_of (i * 16 + k)))) d)
        (subst (λ (a : List ℕ). In (look_code q (j * 16) c) (on_rest g (bare g) nl fl ks a q (i * 16 + k) d)) (sym t) (there n))) in
        let z : look_code q (j * 16) c ≡ look_code q (j * 16 + zero) c = omega arith in
        record {
          dot = omega arith;
          item = omega (arith, (rule_range g j p).1, W.few_rules);
          code = first_low β d c v.code F;
          stands = subst (λ (a : ℕ). In a ls) z m;
        }
    listed (of_move {q = q} {i = i} {k = k} {d = d} {X = X} {β = β} h go) =
        let v = listed h in
        let t = rest_at_lem g W few go in
        let b = bounded g W (bare g) refl go in
        let m = onward q (i * 16 + k) d (look_code (goto_in g (bare g) ks q X) (suc (i * 16 + k)) d) v.item v.code v.stands
        (in_left (at_mark g (bare g) nl fl ks (is_marked g (bare g) nl fl ks (i * 16 + k)) (groups_of (rule_at g (item_of (i * 16 + k)))) d)
        (subst (λ (a : List ℕ). In (look_code (goto_in g (bare g) ks q X) (suc (i * 16 + k)) d) (on_rest g (bare g) nl fl ks a q (i * 16 + k) d))
        (sym t) here)) in
        let z : look_code (goto_in g (bare g) ks q X) (suc (i * 16 + k)) d ≡ look_code (goto_in g (bare g) ks q X) (i * 16 + suc k) d = omega arith in
        record {
          dot = omega (arith, b.dot);
          item = omega (arith, b.dot, b.item, few, W.few_rules);
          code = v.code;
          stands =
              subst (λ (a : ℕ). In (look_code a (i * 16 + suc k) d) ls) (sym (goto_computed g W few ks same ok q X)) (subst (λ (a : ℕ). In a ls) z m);
        }
    listed (of_group {q = q} {d = d} {c = c} i {r = r} δs γ εs p h s F) =
        let v = listed h in
        let x = i * 16 + length r.before in
        let u = entry i δs γ εs p s in
        let a : item_of x ≡ i = item_of_lem i (length r.before) v.dot in
        let b : dot_of x ≡ length r.before = dot_of_lem i (length r.before) v.dot in
        let y = look_code (entry_of g γ) ((length g.rules + entry_of g γ) * 16) c in
        let n : In y (on_groups g (bare g) nl fl ks (δs ++ γ ∷ εs) d) = in_groups g (bare g) nl fl ks δs γ εs d c ((F_is (concat εs) d c).1 F) in
        let o : In y (on_groups g (bare g) nl fl ks (groups_of (rule_at g (item_of x))) d) = subst
        (λ (l : List (List ℕ)). In y (on_groups g (bare g) nl fl ks l d)) (sym (ap (λ (z : ℕ). groups_of (rule_at g z)) a ∙ ap groups_of p ∙ s)) n in
        let t : is_marked g (bare g) nl fl ks x ≡ true = ap (λ (z : ℕ). same_mark (recognition_point g (bare g) z) (dot_of x)) a
        ∙ ap (same_mark (recognition_point g (bare g) i)) b ∙ rule_mark g (bare g) nl fl ks i r p in
        let m = onward q x d y v.item v.code v.stands
        (in_right (on_rest g (bare g) nl fl ks (rest g (bare g) x) q x d)
        (subst (λ (l : Bool). In y (at_mark g (bare g) nl fl ks l (groups_of (rule_at g (item_of x))) d)) (sym t) o)) in
        let z : y ≡ look_code (entry_of g γ) (entry_item g (bare g) (entry_of g γ) * 16 + zero) c = omega arith in
        record {
          dot = omega arith;
          item = omega (arith, u.high, W.few_rules);
          code = first_low (concat εs) d c v.code F;
          stands = subst (λ (a : ℕ). In a ls) z m;
        }
