-- What is known of the tokens of a file that was read.
use Prim.Native.Nat.{ℕ, zero, suc, ◌+◌, ◌-◌, ◌≤◌}
use mathlib.Core.Path.{◌≡◌, refl, ap, ◌∙◌}
use mathlib.Core.List.{List, [], ◌∷◌, ◌++◌, map}
use mathlib.Core.Bool.{Bool, true, false, cond, ◌&&◌}
use native.Mathlib.Omega.{arith}
use borrow.Author.Rules.{rules}
use borrow.Author.Tests.{leb-true, le-leb}
use lib.Dec.{leb}
use lib.ListN.{length, get_or, replicate}
use Rattle.fixpoint.specs.Each.{Each}
use Rattle.reply.specs.declared.Refusal.{Refusal}
use Rattle.reply.specs.declared.Reply.TheVariants as reply
use Rattle.reply.specs.declared.Kind.TheVariants as kind
use Rattle.scan_lines.specs.Tokens.{Scanned, tokens, refused, refused_at, code_of}
use Rattle.scans.specs.File.{house, all_lines, scanned, outcome_of}

-- what is read at all is what the lines give
pub scanned_lines : (letters s l : List ℕ) → scanned letters s ≡ tokens l → all_lines letters 0 s ≡ tokens l
unfolding scanned
scanned_lines letters s l e = go (leb (length s) 65536) e
  where
    go : (t : Bool) → cond t (all_lines letters 0 s) (refused_at kind.LimitExceeded 0) ≡ tokens l → all_lines letters 0 s ≡ tokens l
    go true q = q
    go false q = let z : ◌≡◌ {A = ℕ} 0 1 = cc in absurd (omega arith)

-- "D 1, G 2, P 3, E 5, T 6, F 7"
pub house_letters : map (code_of house) (68 ∷ 71 ∷ 80 ∷ 69 ∷ 84 ∷ 70 ∷ []) ≡ 1 ∷ 2 ∷ 3 ∷ 5 ∷ 6 ∷ 7 ∷ []
unfolding code_of
house_letters = refl

abbrev Apart : ℕ → Type 0
Apart x = 1 ≤ (x - 4) + (4 - x)

-- none is the token of a repeat: each lies apart from 4
pub no_four : (b : ℕ) → code_of house b ≡ 4 → ⊥
unfolding code_of
no_four b e = omega (arith, go (leb 65 b && leb b 90), e)
  where
    each : (l : List ℕ) → Each Apart l → (i : ℕ) → Apart (get_or l i 0)
    each [] a i = omega arith
    each (x ∷ l) a zero = a.0
    each (x ∷ l) a (suc i) = each l a.1 i

    go : (t : Bool) → Apart (cond t (get_or house (b - 65) 0) 0)
    go true = each house (search rules) (b - 65)
    go false = omega arith

-- what a reply of 0 tells of a file that came to x
pub record Listed (x : Scanned) (room n : ℕ) : Type 0 where
  pub list : List ℕ
  pub read : x ≡ tokens list
  pub counted : length list ≡ n
  pub fits : n ≤ room
  pub held : (outcome_of x room).tokens ≡ list ++ replicate (room - n) 0

pub scans_listed : (x : Scanned) (room n : ℕ) → (outcome_of x room).reply ≡ reply.Accepted n → Listed x room n
unfolding outcome_of
scans_listed (tokens l) room n e = go (leb (length l) room) refl
  where
    go : (t : Bool) → leb (length l) room ≡ t → Listed (tokens l) room n
    go true p =
        let f = simp p at e in
        let c : length l ≡ n = cc in
        let h : (outcome_of (tokens l) room).tokens ≡ l ++ replicate (room - length l) 0 = simp p in
        record { list = l; read = refl; counted = c; fits = omega (arith, leb-true (length l) room p); held = h ∙ ap (λ (m : ℕ). l ++ replicate (room - m) 0) c }
    go false p = let f = simp p at e in let z : ◌≡◌ {A = ℕ} 0 1 = cc in absurd (omega arith)
scans_listed (refused x) room n e = let z : ◌≡◌ {A = ℕ} 0 1 = cc in absurd (omega arith)

-- and what a refusal tells where there is room for all
pub scans_refused : (x : Scanned) (room : ℕ) {why : Refusal} → ((l : List ℕ) → x ≡ tokens l → length l ≤ room) → (outcome_of x room).reply ≡ reply.Refused why → x ≡ refused why
unfolding outcome_of
scans_refused (tokens l) room few e = let f = simp (le-leb (length l) room (few l refl)) at e in let z : ◌≡◌ {A = ℕ} 0 1 = cc in absurd (omega arith)
scans_refused (refused x) room {why} few e = let f : x ≡ why = cc in ap refused f
