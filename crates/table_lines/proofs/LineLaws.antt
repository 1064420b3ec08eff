-- How the numbers of a line go on.
use Prim.Native.Nat.{ℕ, zero, suc, ◌+◌, ◌-◌, ◌≤◌, ◌<◌}
use mathlib.Core.Path.{◌≡◌, refl, sym, ap, subst, ◌∙◌}
use mathlib.Core.List.{List, [], ◌∷◌, ◌++◌}
use mathlib.Core.Bool.{Bool, true, false}
use native.Mathlib.Omega.{arith}
use lib.ListN.{length, set, drop}
use lib.Seq.{sets}
use Rattle.text.specs.declared.Cursor.{Cursor}
use Rattle.text.specs.declared.Field.TheVariants as field
use Rattle.text.specs.Field.{field_at, on_number}
use Rattle.digits.specs.Exact.{exact_at}
use Rattle.digits.specs.Compare.{Leads}
use Rattle.digits.proofs.CapLaws.{field_exact, field_leads}
use Rattle.items.proofs.StoreLaws.{sets_snoc}
use Rattle.table_lines.specs.declared.Tally.{Tally}
use Rattle.table_lines.specs.declared.Line.{Line}
use Rattle.table_lines.specs.declared.Line.TheVariants as line
use Rattle.table_lines.specs.Line.{TextLine, whole, broken, numbers_from, rising, cap, caps, Stores}
use Rattle.table_lines.specs.Tally.{last_from, keeps_rising, add_number, tally, line_of}
use Rattle.table_lines.proofs.CapLaws.{caps-length, caps_snoc}
use Rattle.table_lines.proofs.TallyLaws.{tally_snoc, count_is, keeps_is, last_snoc, caps_last}

-- of `all` there is left what numbers_from says of k, c and the numbers that p and memory m hold, the last of which stands at
-- `prior`; m₀ is what memory held at first
pub record Going (all : TextLine) (s : List ℕ) (letter : ℕ) (m₀ : List ℕ) (k : ℕ) (c : Cursor) (prior : ℕ) (p : Tally) (m : List ℕ) : Type 0 where
  pub numbers : List ℕ
  pub same : all ≡ numbers_from k s letter c numbers
  pub tally_is : p ≡ tally numbers
  pub last_is : 0 < length numbers → exact_at s prior ≡ last_from 0 numbers
  pub leads : 0 < length numbers → Leads s prior
  pub stored : m ≡ sets m₀ 0 (caps numbers)

pub going_start : (s : List ℕ) (letter : ℕ) (m : List ℕ) (k : ℕ) (c : Cursor) (prior : ℕ) (p : Tally) → p ≡ tally [] → Going (numbers_from k s letter c []) s letter m k c prior p m
going_start s letter m k c prior p e = record { numbers = []; same = refl; tally_is = e; last_is = λ h. absurd (omega arith); leads = λ h. absurd (omega arith); stored = refl }

abbrev pub Answers : TextLine → Line → List ℕ → List ℕ → Type 0
Answers all r m₀ m = (r ≡ line_of all) × Stores all m₀ m

answers : {all : TextLine} (x : TextLine) (r : Line) (m₀ m : List ℕ) → all ≡ x → Answers x r m₀ m → Answers all r m₀ m
answers x r m₀ m e a = subst (λ (y : TextLine). Answers y r m₀ m) (sym e) a

module _ {all : TextLine} {s : List ℕ} {letter : ℕ} {m₀ : List ℕ} {k : ℕ} {c : Cursor} {prior : ℕ} {p : Tally} {m : List ℕ} (g : Going all s letter m₀ k c prior p m) where
  some_number : 4 ≤ p.count → 0 < length g.numbers
  some_number h = omega (arith, h, ap (λ (t : Tally). t.count) g.tally_is ∙ count_is g.numbers)

  -- the last number, as it is kept, and as it is written
  pub going_last : 4 ≤ p.count → p.last ≡ cap (exact_at s prior)
  unfolding tally
  going_last h = ap (λ (t : Tally). t.last) g.tally_is ∙ (caps_last 0 g.numbers ∙ ap cap (sym (g.last_is (some_number h))))

  pub going_leads : 4 ≤ p.count → Leads s prior
  going_leads h = g.leads (some_number h)

  pub going_none : k ≤ 0 → Answers all line.Broken m₀ m
  unfolding numbers_from
  going_none h = go k g.same h
    where
      go : (n : ℕ) → all ≡ numbers_from n s letter c g.numbers → n ≤ 0 → Answers all line.Broken m₀ m
      go zero e h = answers broken line.Broken m₀ m e (refl, tt)
      go (suc n) e h = absurd (omega arith)

  pub going_over : 0 < k → c.ended ≡ true → Answers all (line.Whole letter p c.at) m₀ m
  unfolding numbers_from
  going_over h q = go k g.same h
    where
      go : (n : ℕ) → all ≡ numbers_from n s letter c g.numbers → 0 < n → Answers all (line.Whole letter p c.at) m₀ m
      go zero e h = absurd (omega arith)
      go (suc n) e h = answers (whole letter g.numbers c.at) (line.Whole letter p c.at) m₀ m (e ∙ simp q) (ap (λ (t : Tally). line.Whole letter t c.at) g.tally_is, g.stored)

  module _ (h : 0 < k) (q : c.ended ≡ false) where
    pub going_broken : ((x : ℕ → Cursor → TextLine) (y : TextLine) → on_number (field_at s c) x y ≡ y) → Answers all line.Broken m₀ m
    unfolding numbers_from
    going_broken o = go k g.same h
      where
        go : (n : ℕ) → all ≡ numbers_from n s letter c g.numbers → 0 < n → Answers all line.Broken m₀ m
        go zero e h = absurd (omega arith)
        go (suc n) e h = answers broken line.Broken m₀ m (e ∙ simp (q, o)) (refl, tt)

    pub going_on : {v : ℕ} {d : Cursor} → field_at s c ≡ field.Number v d → {rise : Bool} → rise ≡ keeps_rising s p prior c.at
        → {r : Tally} {after : List ℕ} → r ≡ add_number p v rise → after ≡ set m p.count v → Going all s letter m₀ (k - 1) d c.at r after
    unfolding numbers_from
    going_on {v} {d} f {rise} w {r} {after} e i =
        record {
          numbers = g.numbers ++ n ∷ [];
          same = go k g.same h;
          tally_is = e ∙ (ap (add_number p v) rises ∙ (ap (λ (t : Tally). add_number t v rise') g.tally_is
              ∙ (ap (λ (x : ℕ). add_number (tally g.numbers) x rise') (field_exact s c f) ∙ tally_snoc g.numbers n)));
          last_is = λ l. sym (last_snoc 0 g.numbers n);
          leads = λ l. field_leads s c f;
          stored = i ∙ (ap (λ (x : ℕ). set m x v) count ∙ (ap (set m (0 + length (caps g.numbers))) (field_exact s c f)
              ∙ (ap (λ (l : List ℕ). set l (0 + length (caps g.numbers)) (cap n)) g.stored
              ∙ (sets_snoc m₀ (caps g.numbers) 0 (cap n) ∙ ap (sets m₀ 0) (sym (caps_snoc g.numbers n))))));
        }
      where
        n : ℕ
        n = exact_at s c.at

        rise' : Bool
        rise' = rising (drop 3 (g.numbers ++ n ∷ []))

        rises : rise ≡ rise'
        rises = w ∙ (ap (λ (t : Tally). keeps_rising s t prior c.at) g.tally_is ∙ keeps_is s g.numbers prior c.at g.last_is)

        count : p.count ≡ 0 + length (caps g.numbers)
        count = omega (arith, ap (λ (t : Tally). t.count) g.tally_is ∙ count_is g.numbers, caps-length g.numbers)

        one_less : (n : ℕ) → suc n - 1 ≡ n
        one_less n = omega arith

        go : (j : ℕ) → all ≡ numbers_from j s letter c g.numbers → 0 < j → all ≡ numbers_from (j - 1) s letter d (g.numbers ++ exact_at s c.at ∷ [])
        go zero e h = absurd (omega arith)
        go (suc j) e h = e ∙ simp (q, f, one_less j)
