-- How the rule lines are read one after the other.
use Prim.Native.Nat.{ℕ, zero, suc, ◌+◌, ◌*◌, ◌≤◌, ◌<◌}
use mathlib.Core.Path.{◌≡◌, refl, sym, ap, subst, ◌∙◌}
use mathlib.Core.List.{List, [], ◌∷◌, ◌++◌, append-nil}
use native.Mathlib.Omega.{arith}
use lib.ListN.{length, replicate, length-append}
use lib.Seq.{sets, append_snoc}
use Rattle.language.specs.Grammar.{Rule}
use Rattle.items.specs.Layout.{item_table, row_of}
use Rattle.items.proofs.TableLaws.{table_none, table_rule, table_length, table_behind}
use Rattle.reply.specs.declared.Refusal.{Refusal}
use Rattle.grammar_rule.specs.declared.RuleLine.{RuleLine}
use Rattle.grammar_rule.specs.declared.RuleLine.TheVariants as line
use Rattle.grammar_rule.specs.RuleLine.{Line, read, refused, rule_at}
use Rattle.grammar_rule.specs.Progress.{line_of}
use Rattle.grammar_rule.specs.Memory.{EmptyRow, StoredBy, Stored}
use Rattle.grammar.specs.declared.RuleLines.TheVariants as lines
use Rattle.grammar.specs.Book.{Rules, listed, broken_off, after, rules_from}
use Rattle.grammar.specs.Memory.{lines_reply, Listed}

-- ---- what an answer tells of the line
pub is_read : (l : Line) {next : ℕ} → line_of l ≡ line.Read next → (r : Rule) × (l ≡ read r next)
is_read (read r n) {next} e = (r, ap (read r) (let q : n ≡ next = cc in q))
is_read (refused x) e = let z : ◌≡◌ {A = ℕ} 0 1 = cc in absurd (omega arith)

pub is_refused : (l : Line) {x : Refusal} → line_of l ≡ line.Refused x → l ≡ refused x
is_refused (read r n) e = let z : ◌≡◌ {A = ℕ} 0 1 = cc in absurd (omega arith)
is_refused (refused y) {x} e = ap refused (let q : y ≡ x = cc in q)

after_none : (r : Rules) → after [] r ≡ r
after_none (listed rs end) = refl
after_none (broken_off x) = refl

after_more : (rs : List Rule) (q : Rule) (r : Rules) → after rs (after (q ∷ []) r) ≡ after (rs ++ q ∷ []) r
after_more rs q (listed qs end) = ap (λ (l : List Rule). listed l end) (sym (append_snoc rs q qs))
after_more rs q (broken_off x) = refl

-- ---- a line more
module _ (k : ℕ) (s : List ℕ) (t n at : ℕ) where
  rules_read : {r : Rule} {next : ℕ} → rule_at s t n at ≡ read r next → rules_from (suc k) s t n at ≡ after (r ∷ []) (rules_from k s t n next)
  unfolding rules_from
  rules_read e = simp e

  rules_refused : {x : Refusal} → rule_at s t n at ≡ refused x → rules_from (suc k) s t n at ≡ broken_off x
  unfolding rules_from
  rules_refused e = simp e

-- ---- the loop: the rules before rule i are listed, and the lines are they and those from `at` on
module _ (s : List ℕ) (t n count first : ℕ) (size : ℕ) where
  pub record Listing (i at : ℕ) (m : List ℕ) : Type 0 where
    pub fuel : ℕ
    pub fuel_is : i + fuel ≡ count + 1
    pub passed : List Rule
    pub passed_is : length passed + 1 ≡ i
    pub same : rules_from count s t n first ≡ after passed (rules_from fuel s t n at)
    pub table : m ≡ item_table passed [] size

  pub listing_start : {m : List ℕ} → m ≡ replicate size 0 → Listing 1 first m
  listing_start e =
      record {
        fuel = count;
        fuel_is = omega arith;
        passed = [];
        passed_is = omega arith;
        same = sym (after_none (rules_from count s t n first));
        table = e ∙ sym (table_none size);
      }

  module _ {i at : ℕ} {m : List ℕ} (k : Listing i at m) where
    pub row_empty : i ≤ count → count * 64 + 64 ≤ size → EmptyRow m (i * 64)
    row_empty h room =
        record {
          room = rw k.table (omega (arith, table_length k.passed [] size));
          zeros = λ j a b. rw k.table (table_behind k.passed [] size j (omega (arith, k.passed_is)));
        }

    -- one more rule
    more : (r : Rule) (next : ℕ) → rule_at s t n at ≡ read r next → i ≤ count → {m' : List ℕ} → m' ≡ sets m (i * 64) (row_of r) → Listing (i + 1) next m'
    more r next e h {m'} w = go k.fuel k.fuel_is k.same
      where
        go : (f : ℕ) → i + f ≡ count + 1 → rules_from count s t n first ≡ after k.passed (rules_from f s t n at) → Listing (i + 1) next m'
        go zero a b = absurd (omega arith)
        go (suc f) a b =
            record {
              fuel = f;
              fuel_is = omega arith;
              passed = k.passed ++ r ∷ [];
              passed_is = omega (arith, length-append k.passed (r ∷ []), k.passed_is);
              same = b ∙ ap (after k.passed) (rules_read f s t n at e) ∙ after_more k.passed r (rules_from f s t n next);
              table = w ∙ ap (λ (l : List ℕ). sets l (i * 64) (row_of r)) k.table ∙ table_rule k.passed r size (i * 64) (omega (arith, k.passed_is));
            }

    broken : (x : Refusal) → rule_at s t n at ≡ refused x → i ≤ count → rules_from count s t n first ≡ broken_off x
    broken x e h = go k.fuel k.fuel_is k.same
      where
        go : (f : ℕ) → i + f ≡ count + 1 → rules_from count s t n first ≡ after k.passed (rules_from f s t n at) → rules_from count s t n first ≡ broken_off x
        go zero a b = absurd (omega arith)
        go (suc f) a b = b ∙ ap (after k.passed) (rules_refused f s t n at e)

    all : count < i → rules_from count s t n first ≡ listed k.passed at
    unfolding rules_from
    all h = go k.fuel k.fuel_is k.same
      where
        go : (f : ℕ) → i + f ≡ count + 1 → rules_from count s t n first ≡ after k.passed (rules_from f s t n at) → rules_from count s t n first ≡ listed k.passed at
        go zero a b = b ∙ ap (λ (l : List Rule). listed l at) (append-nil k.passed)
        go (suc f) a b = absurd (omega arith)

    -- ---- as the code has it: y is the answer of a line, and m' what the line leaves
    module _ (h : i ≤ count) {y : RuleLine} (a : y ≡ line_of (rule_at s t n at)) {m' : List ℕ} (w : Stored (rule_at s t n at) m (i * 64) m') where
      pub listing_read : {next : ℕ} → y ≡ line.Read next → Listing (i + 1) next m'
      listing_read {next} e =
          let r = is_read (rule_at s t n at) (sym a ∙ e) in
          more r.0 next r.1 h (subst (λ (l : Line). StoredBy l m (i * 64) m') r.1 w.stored)

      pub listing_refused : {x : Refusal} → y ≡ line.Refused x
          → record { answered : lines.Refused x ≡ lines_reply (rules_from count s t n first); stored : Listed (rules_from count s t n first) size m' }
      listing_refused {x} e =
          let b = broken x (is_refused (rule_at s t n at) (sym a ∙ e)) h in
          record { answered = sym (ap lines_reply b); stored = subst (λ (r : Rules). Listed r size m') (sym b) (record { table = tt }) }

    pub listing_done : count < i → record { answered : lines.Read at ≡ lines_reply (rules_from count s t n first); stored : Listed (rules_from count s t n first) size m }
    listing_done h =
        let b = all h in
        record { answered = sym (ap lines_reply b); stored = subst (λ (r : Rules). Listed r size m) (sym b) (record { table = k.table }) }
