-- From what the expansion wrote to what the load leaves in both slices.
use Prim.Native.Nat.{ℕ, zero, suc, ◌+◌, ◌-◌, ◌≤◌, ◌<◌}
use mathlib.Core.Path.{◌≡◌, refl, ap, ap₂, subst, ◌∙◌}
use mathlib.Core.Logic.{◌⊎◌, inl, inr}
use mathlib.Core.List.{List, ◌∷◌, ◌++◌, append_assoc}
use native.Mathlib.Omega.{arith}
use lib.ListN.{length, take, drop, replicate, length-replicate, length-append, length-drop, replicate-append-replicate}
use lib.Seq.{sets, length-take-le}
use Rattle.language.specs.Grammar.{Grammar}
use Rattle.language.specs.Derivation.{Tree, yield}
use Rattle.language.specs.Listing.{listing}
use Rattle.language.specs.Sentence.{AllProductive}
use Rattle.grammar_header.specs.declared.Heading.{Heading}
use Rattle.grammar.specs.Memory.{HoldsGrammar}
use Rattle.grammar.proofs.ReducedLaws.{ready_holds, goal_is}
use Rattle.generate_loads.specs.Load.{IsSymbol, grown, load}
use Rattle.generate_heights.specs.Heights.{Source}
use Rattle.reply.specs.declared.Kind.TheVariants.{BufferTooSmall}
use Rattle.reply.specs.Reply.{padded}
use Rattle.reply.proofs.PaddedLaws.{drop_zeros, put_zeros}
use Rattle.generate_steps.specs.declared.Point.{Point}
use Rattle.generate_steps.specs.declared.Step.{Step}
use Rattle.generator.specs.declared.GeneratorReply.{GeneratorReply}
use Rattle.generator.specs.declared.GeneratorReply.TheVariants.{Written, Refused}
use Rattle.generator.specs.Generated.{load_of, Tells}
use Rattle.generate_steps.specs.Put.{Put}
use Rattle.generator.specs.Written.{Writes}
use Rattle.generator.proofs.AnswerLaws.{Misfits, fitted_written, fitted_short, tells_as}
use Rattle.generator.proofs.PutLaws.{outgrown}

-- ---- zeros
take_zeros : (i n : ℕ) → i ≤ n → take i (replicate {A = ℕ} n 0) ≡ replicate i 0
take_zeros zero n h = refl
take_zeros (suc i) zero h = absurd (omega arith)
take_zeros (suc i) (suc n) h = ap (λ (l : List ℕ). 0 ∷ l) (take_zeros i n (omega arith))

-- more zeros behind
pad_more : (l : List ℕ) (e n : ℕ) → length l ≤ e → e ≤ n → padded e l ++ drop e (replicate n 0) ≡ padded n l
unfolding padded
pad_more l e n h m =
    ap (λ (z : List ℕ). padded e l ++ z) (drop_zeros e n)
    ∙ (append_assoc l (replicate (e - length l) 0) (replicate (n - e) 0)
    ∙ ap (λ (z : List ℕ). l ++ z) (replicate-append-replicate (e - length l) (n - e) 0 ∙ ap (λ (k : ℕ). replicate {A = ℕ} k 0) (sum e n (length l) h m)))
  where
    sum : (e n k : ℕ) → k ≤ e → e ≤ n → e - k + (n - e) ≡ n - k
    sum e n k h l = omega arith

-- ---- what the load of derivation T leaves, from slices of zeros of which the first e places are lent for tokens
module _ (g : Grammar) (T : Tree) (e n k : ℕ) {t₁ l₁ : List ℕ} (t-zeros : t₁ ≡ replicate n 0) (l-zeros : l₁ ≡ replicate k 0) (e-in : e ≤ n) where
  t_length : length t₁ ≡ n
  t_length = ap length t-zeros ∙ length-replicate {A = ℕ} n 0

  l_length : length l₁ ≡ k
  l_length = ap length l-zeros ∙ length-replicate {A = ℕ} k 0

  lent : length (take e t₁) ≡ e
  lent = length-take-le e t₁ (omega (arith, e-in, t_length))

  pub load_written : e ≤ 65535 → {part l : List ℕ} {qt qr : ℕ} → Put (take e t₁) 0 (yield T) part qt → Put l₁ 0 (listing g T) l qr
      → Tells (load_of n k g T) (Written (record { tokens = qt; rules = qr })) (part ++ drop e t₁) l
  load_written c {part} {l} {qt} {qr} x y =
      let w = yield T in
      let m = listing g T in
      let zeros : take e t₁ ≡ replicate e 0 = ap (take e) t-zeros ∙ take_zeros e n e-in in
      let lw : length w ≤ e = omega (arith, x.next_is, x.room, lent) in
      let lm : length m ≤ k = omega (arith, y.next_is, y.room, l_length) in
      let part-is : part ≡ padded e w = x.slice_is ∙ (ap (λ (z : List ℕ). sets z 0 w) zeros ∙ put_zeros w e lw) in
      tells_as (fitted_written n k w m (omega (arith, lw, c)) (omega (arith, lw, e-in)) lm)
      (record {
        reply_is = ap₂ (λ (i j : ℕ). Written (record { tokens = i; rules = j })) (omega (arith, x.next_is)) (omega (arith, y.next_is));
        tokens_are = ap₂ (λ (i j : List ℕ). i ++ drop e j) part-is t-zeros ∙ pad_more w e n lw e-in;
        listing_is = y.slice_is ∙ (ap (λ (z : List ℕ). sets z 0 m) l-zeros ∙ put_zeros m k lm);
      })

  -- the part lent is as long as a load may be
  pub load_short : (e ≡ n) ⊎ (e ≡ 65535) → {s : ℕ} {p : Point} {part l : List ℕ} → p.tokens ≡ 0 → p.rules ≡ 0
      → Writes (yield T) (listing g T) s p (take e t₁) l₁ part l Step.Full
      → {r : GeneratorReply} {t' l' : List ℕ} → r ≡ Refused (record { kind = BufferTooSmall; place = 0 }) → t' ≡ replicate n 0 → l' ≡ replicate k 0
      → Tells (load_of n k g T) r t' l'
  load_short c {p = p} u v w r t' l' = tells_as (fitted_short n k (yield T) (listing g T) (go c (outgrown w))) (record { reply_is = r; tokens_are = t'; listing_is = l' })
    where
      go : (e ≡ n) ⊎ (e ≡ 65535) → (length (take e t₁) < p.tokens + length (yield T)) ⊎ (length l₁ < p.rules + length (listing g T)) → Misfits n k (yield T) (listing g T)
      go (inl q) (inl x) = inr (inl (omega (arith, x, u, lent, q)))
      go (inr q) (inl x) = inl (omega (arith, x, u, lent, q))
      go c (inr x) = inr (inr (omega (arith, x, v, l_length)))

  -- what comes back of the part lent, before the rest, is as long as the slice
  pub whole_length : (part : List ℕ) → length part ≡ length (take e t₁) → length (part ++ drop e t₁) ≡ n
  whole_length part h = length-append part (drop e t₁) ∙ omega (arith, h, lent, length-drop e t₁, t_length, e-in)

-- ---- the grammar in memory
load_at : (g : Grammar) (seed d : ℕ) {x : ℕ} → g.goal ≡ x → load g seed d ≡ (grown g d x seed).tree
unfolding load
load_at g seed d e = ap (λ (X : ℕ). (grown g d X seed).tree) e

-- the load is what the goal expands to
pub load_tells : (g : Grammar) (seed d n k : ℕ) {x : ℕ} {r : GeneratorReply} {t l : List ℕ} → g.goal ≡ x
    → Tells (load_of n k g (grown g d x seed).tree) r t l → Tells (load_of n k g (load g seed d)) r t l
load_tells g seed d n k e h = tells_as (ap (load_of n k g) (load_at g seed d e)) h

module _ {items : List ℕ} {heading : Heading} {g : Grammar} (H : HoldsGrammar items heading g) where
  pub goal_symbol : IsSymbol g heading.goal
  goal_symbol = subst (IsSymbol g) (goal_is H) (inr H.formed.goal_declared)

  pub source_of : AllProductive g → Source items heading.rules g
  source_of p = record { holds = ready_holds H; formed = H.formed; productive = p }
