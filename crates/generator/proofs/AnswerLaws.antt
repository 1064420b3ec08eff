-- What the generator answers, case by case.
use Prim.Native.Nat.{ℕ, ◌≤◌, ◌<◌}
use mathlib.Core.Path.{◌≡◌, refl, sym, ap, subst, ◌∙◌}
use mathlib.Core.Logic.{◌⊎◌, inl, inr}
use mathlib.Core.Bool.{Bool, true, false, cond, ◌&&◌}
use mathlib.Core.List.{List}
use lib.ListN.{length}
use lib.Dec.{leb, ltb}
use native.Mathlib.Omega.{arith}
use borrow.Author.Tests.{lt-ltb, le-ltb, le-leb, lt-leb, leb-true}
use Rattle.reply.specs.declared.Kind.TheVariants.{LimitExceeded, BufferTooSmall}
use Rattle.grammar.specs.Book.{Book, accepted, rejected, grammar_of}
use Rattle.generator.specs.declared.GeneratorReply.{GeneratorReply}
use Rattle.language.specs.Derivation.{yield}
use Rattle.language.specs.Listing.{listing}
use Rattle.generate_loads.specs.Load.{load}
use Rattle.generator.specs.Generated.{Answer, refused_at, written_as, fits, fitted, from_book, generated, Tells, token_count}

-- tokens w or listed rules l are too long
abbrev pub Misfits : (n k : ℕ) → List ℕ → List ℕ → Type 0
Misfits n k w l = (65535 < length w) ⊎ ((n < length w) ⊎ (k < length l))

module _ (n k : ℕ) (w l : List ℕ) where
  pub fitted_written : length w ≤ 65535 → length w ≤ n → length l ≤ k → fitted n k w l ≡ written_as n k w l
  unfolding fitted
  fitted_written a b c = simp (le-leb (length w) 65535 a, le-leb (length w) n b, le-leb (length l) k c)

  misfit : Misfits n k w l → fits n k w l ≡ false
  misfit (inl h) = ap (λ (b : Bool). b && (leb (length w) n && leb (length l) k)) (lt-leb (length w) 65535 h)
  misfit (inr (inl h)) = ap (λ (b : Bool). leb (length w) 65535 && (b && leb (length l) k)) (lt-leb (length w) n h) ∙ off (leb (length w) 65535)
    where
      off : (b : Bool) → b && false ≡ false
      off true = refl
      off false = refl
  misfit (inr (inr h)) = ap (λ (b : Bool). leb (length w) 65535 && (leb (length w) n && b)) (lt-leb (length l) k h) ∙ off (leb (length w) 65535) (leb (length w) n)
    where
      off : (b c : Bool) → b && (c && false) ≡ false
      off true true = refl
      off true false = refl
      off false c = refl

  pub fitted_short : Misfits n k w l → fitted n k w l ≡ refused_at n k BufferTooSmall 0
  unfolding fitted
  fitted_short h = simp (misfit h)

  -- no more tokens are counted than are lent
  fitted_few : token_count (fitted n k w l).reply ≤ n
  unfolding fitted
  fitted_few = go (leb (length w) 65535) (leb (length w) n) (leb (length l) k) (leb-true (length w) n)
    where
      go : (a b c : Bool) → (b ≡ true → length w ≤ n) → token_count (cond (a && (b && c)) (written_as n k w l) (refused_at n k BufferTooSmall 0)).reply ≤ n
      go true true true h = h refl
      go true true false h = omega arith
      go true false c h = omega arith
      go false b c h = omega arith

module _ (gs : List ℕ) (seed d n k : ℕ) where
  pub generated_deep : 15 < d → generated n k gs seed d ≡ refused_at n k LimitExceeded 0
  unfolding generated
  generated_deep h = simp (lt-ltb 15 d h)

  pub generated_book : d ≤ 15 → {b : Book} → grammar_of gs ≡ b → generated n k gs seed d ≡ from_book n k b seed d
  unfolding generated
  generated_book h e = simp (le-ltb 15 d h, e)

  book_few : (b : Book) → token_count (from_book n k b seed d).reply ≤ n
  book_few (accepted g) = fitted_few n k (yield (load g seed d)) (listing g (load g seed d))
  book_few (rejected why) = omega arith

  generated_few : token_count (generated n k gs seed d).reply ≤ n
  unfolding generated
  generated_few = go (ltb 15 d)
    where
      go : (b : Bool) → token_count (cond b (refused_at n k LimitExceeded 0) (from_book n k (grammar_of gs) seed d)).reply ≤ n
      go true = omega arith
      go false = book_few (grammar_of gs)

  pub tells_few : {r : GeneratorReply} {t l : List ℕ} → Tells (generated n k gs seed d) r t l → token_count r ≤ n
  tells_few h = subst (λ (r : GeneratorReply). token_count r ≤ n) (sym h.reply_is) generated_few

pub tells_as : {x y : Answer} {r : GeneratorReply} {t l : List ℕ} → x ≡ y → Tells y r t l → Tells x r t l
tells_as {r = r} {t = t} {l = l} e h = subst (λ (z : Answer). Tells z r t l) (sym e) h
