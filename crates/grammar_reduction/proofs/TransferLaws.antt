-- From the clauses in memory to those of the grammar that memory holds, and what the flags then say.
use Prim.Native.Nat.{ℕ, ◌+◌, ◌≤◌, ◌<◌}
use mathlib.Core.Path.{◌≡◌, refl, sym, ap, subst, ◌∙◌}
use mathlib.Core.List.{List}
use mathlib.Core.Option.{some}
use native.Mathlib.Decide.{ℕ_discrete}
use lib.ListN.{get_or, set, replicate, length-replicate}
use Rattle.language.specs.Grammar.{Grammar, Rule, right, rule_at}
use Rattle.language.specs.Sentence.{In, Productive, Reachable}
use Rattle.language.proofs.GrammarLaws.{rule_range, range_rule}
use Rattle.items.specs.Layout.{left_at, symbol_at, Holds, Shaped}
use Rattle.items.proofs.HoldsLaws.{symbol_in, in_symbol}
use Rattle.fixpoint.specs.Flags.{On, Off, Marks}
use Rattle.fixpoint.specs.Least.{Least, Among, least_map}
use Rattle.fixpoint.proofs.CountLaws.{on_set, only_set}
use Rattle.fixpoint.proofs.PassLaws.{all_off}
use Rattle.fixpoint.specs.declared.Found.{Found}
use Rattle.fixpoint.specs.Lowest.{Lowest, lowest_one, lowest_map}
use Rattle.grammar_reduction.specs.Derives.{left_of, productions, rules_productive, productive_rules}
use Rattle.grammar_reduction.specs.Reaches.{Occurrence, occurs, rule_of, symbol_of, reaching, rules_reachable, reachable_rules}
use Rattle.grammar_reduction.specs.Reduced.{lowest_unproductive, lowest_unproductive_lem, lowest_unreachable, lowest_unreachable_lem}
use Rattle.grammar_reduction.specs.InMemory.{SymbolIn, productions_in, reaching_in, Upto}

module _ {m : List ℕ} {rules : ℕ} (g : Grammar) (s : Shaped m rules) (h : Holds m rules g) where
  -- a rule of the grammar is one of memory, and the other way round
  in_range : (i : ℕ) {r : Rule} → rule_at g i ≡ some r → (1 ≤ i) × (i ≤ rules)
  in_range i e = let l = rule_range g i e in (l.0, subst (λ (n : ℕ). i ≤ n) h.count l.1)

  rule_of_lem : (i : ℕ) → 1 ≤ i → i ≤ rules → (r : Rule) × (rule_at g i ≡ some r)
  rule_of_lem i l k = range_rule g i l (subst (λ (n : ℕ). i ≤ n) (sym h.count) k)

  left_same : (i : ℕ) {r : Rule} → rule_at g i ≡ some r → left_at m i ≡ left_of (rule_at g i)
  left_same i e = (h.rule_in i e).left_is ∙ sym (ap left_of e)

  symbol_of_rule : (i : ℕ) {r : Rule} → rule_at g i ≡ some r → (a : ℕ) → SymbolIn m i a → In a (right r)
  symbol_of_rule i {r = r} e a x =
      subst (λ (b : ℕ). In b (right r)) x.is_it (symbol_in (h.rule_in i e) (s.lengths i (in_range i e).1) x.place x.within)

  rule_symbol : (i : ℕ) {r : Rule} → rule_at g i ≡ some r → (a : ℕ) → In a (right r) → SymbolIn m i a
  rule_symbol i e a x =
      let k = in_symbol (h.rule_in i e) (s.lengths i (in_range i e).1) x in
      record { place = k.0; within = k.1; is_it = k.2 }

  pub productions_to : Among (productions g) (productions_in m rules)
  productions_to = record {
    send = λ i ok. i;
    send_ok = λ i ok. in_range i ok.1;
    send_needs = λ i ok a x. (ok.0, ok.1, symbol_of_rule i ok.1 a x);
    send_head = λ i ok. left_same i ok.1;
  }

  pub productions_from : Among (productions_in m rules) (productions g)
  productions_from = record {
    send = λ i ok. i;
    send_ok = λ i ok. rule_of_lem i ok.0 ok.1;
    send_needs = λ i ok a x. rule_symbol i x.1 a x.2;
    send_head = λ i ok. sym (left_same i (rule_of_lem i ok.0 ok.1).1);
  }

  pub reaching_to : Among (reaching g) (reaching_in m rules)
  reaching_to = record {
    send = λ c ok. occurs (rule_of c) (spot c ok).place;
    send_ok = λ c ok. (in_range (rule_of c) ok.1, (spot c ok).within);
    send_needs = λ c ok a x. x ∙ left_same (rule_of c) ok.1;
    send_head = λ c ok. (spot c ok).is_it;
  }
    where
      spot : (c : Occurrence) → (reaching g).ok c → SymbolIn m (rule_of c) (symbol_of c)
      spot c ok = rule_symbol (rule_of c) ok.1 (symbol_of c) ok.2

  pub reaching_from : Among (reaching_in m rules) (reaching g)
  reaching_from = record {
    send = λ c ok. occurs (rule_of c) (symbol_at m (rule_of c) (symbol_of c));
    send_ok = λ c ok.
        let r = rule_of_lem (rule_of c) ok.0.0 ok.0.1 in
        (r.0, r.1, symbol_of_rule (rule_of c) r.1 (symbol_at m (rule_of c) (symbol_of c)) (record { place = symbol_of c; within = ok.1; is_it = refl }));
    send_needs = λ c ok a x. x ∙ sym (left_same (rule_of c) (rule_of_lem (rule_of c) ok.0.0 ok.0.1).1);
    send_head = λ c ok. refl;
  }

-- flags that mark P are unset where P fails
off_lacks : {P : ℕ → Type 0} (fs : List ℕ) → Marks P fs → (x : ℕ) → Off fs x → P x → ⊥
off_lacks fs marks x z p = (marks.every x p).nonzero z

lacks_off : {P : ℕ → Type 0} (fs : List ℕ) → Marks P fs → (x : ℕ) → (P x → ⊥) → Off fs x
lacks_off fs marks x f = go (ℕ_discrete (get_or fs x 0) 0)
  where
    go : Dec (get_or fs x 0 ≡ 0) → Off fs x
    go (yes z) = z
    go (no on) = absurd (f (marks.only x (record { nonzero = on })))

-- the lowest unset flag is the lowest number without P
lowest_lack : (P : ℕ → Type 0) (fs : List ℕ) → Marks P fs → (low high : ℕ) (r : Found) → Lowest (Off fs) low high r → Lowest (λ x. P x → ⊥) low high r
lowest_lack P fs marks low high r h =
    lowest_map (Off fs) (λ x. P x → ⊥) low high r (λ x _ _ z. off_lacks fs marks x z) (λ x _ _ f. lacks_off fs marks x f) h

pub marks_map : {P Q : ℕ → Type 0} {fs : List ℕ} → ((x : ℕ) → P x → Q x) → ((x : ℕ) → Q x → P x) → Marks P fs → Marks Q fs
marks_map f g h = record { only = λ x on. f x (h.only x on); every = λ x q. h.every x (g x q) }

-- one flag set among cleared ones
pub marks_one : (n x : ℕ) → x < n → Marks (λ y. y ≡ x) (set (replicate n 0) x 1)
marks_one n x l = record {
  only = only_set (λ y. y ≡ x) (replicate n 0) x (λ y on. all_off n refl on) refl;
  every = λ y e. subst (On (set (replicate n 0) x 1)) (sym e) (on_set (replicate n 0) x (subst (λ (b : ℕ). x < b) (sym (length-replicate {A = ℕ} n 0)) l));
}

module _ {m : List ℕ} {rules : ℕ} (g : Grammar) (s : Shaped m rules) (h : Holds m rules g) {fs₀ fs : List ℕ} where
  -- closing the terminals' flags marks the productive symbols
  pub marks_productive : {t : ℕ} → g.terminals ≡ t → Marks (Upto t) fs₀ → Marks (Least (productions_in m rules) (On fs₀)) fs → Marks (Productive g) fs
  marks_productive {t} e seeds marks =
      marks_map
      (λ x p. rules_productive g (least_map (productions_from g s h) (λ y on. let u = seeds.only y on in (u.0, subst (λ (n : ℕ). y ≤ n) (sym e) u.1)) p))
      (λ x p. least_map (productions_to g s h) (λ y u. seeds.every y (u.0, subst (λ (n : ℕ). y ≤ n) e u.1)) (productive_rules g p))
      marks

  pub found_unproductive : {t n : ℕ} → g.terminals ≡ t → g.nonterminals ≡ n → Marks (Upto t) fs₀ → Marks (Least (productions_in m rules) (On fs₀)) fs
      → (r : Found) → Lowest (Off fs) 64 (64 + n) r → r ≡ lowest_unproductive g
  found_unproductive {n = n} e k seeds marks r l =
      lowest_one (λ X. Productive g X → ⊥) 64 (64 + n) r (lowest_unproductive g)
      (lowest_lack (Productive g) fs (marks_productive e seeds marks) 64 (64 + n) r l)
      (subst (λ (j : ℕ). Lowest (λ X. Productive g X → ⊥) 64 (64 + j) (lowest_unproductive g)) k (lowest_unproductive_lem g))

  -- closing the goal's flag marks the reachable ones
  pub marks_reachable : Marks (λ x. x ≡ g.goal) fs₀ → Marks (Least (reaching_in m rules) (On fs₀)) fs → Marks (Reachable g) fs
  marks_reachable seeds marks =
      marks_map
      (λ x p. rules_reachable g (least_map (reaching_from g s h) seeds.only p))
      (λ x p. least_map (reaching_to g s h) seeds.every (reachable_rules g p))
      marks

  pub found_unreachable : {goal n : ℕ} → g.goal ≡ goal → g.nonterminals ≡ n → Marks (λ x. x ≡ goal) fs₀ → Marks (Least (reaching_in m rules) (On fs₀)) fs
      → (r : Found) → Lowest (Off fs) 64 (64 + n) r → r ≡ lowest_unreachable g
  found_unreachable {n = n} e k seeds marks r l =
      lowest_one (λ X. Reachable g X → ⊥) 64 (64 + n) r (lowest_unreachable g)
      (lowest_lack (Reachable g) fs (marks_reachable (marks_map (λ x q. q ∙ sym e) (λ x q. q ∙ e) seeds) marks) 64 (64 + n) r l)
      (subst (λ (j : ℕ). Lowest (λ X. Reachable g X → ⊥) 64 (64 + j) (lowest_unreachable g)) k (lowest_unreachable_lem g))
