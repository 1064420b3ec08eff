-- Cells and gotos in memory are those of the table's action lines.
use Prim.Native.Nat.{ℕ, ◌+◌, ◌*◌, ◌-◌, ◌≤◌, ◌<◌}
use native.Mathlib.Omega.{arith}
use mathlib.Core.Path.{◌≡◌, ap, ◌∙◌}
use mathlib.Core.List.{List}
use mathlib.Core.Option.{Option}
use lib.ListN.{get_or}
use Rattle.leftcorner.specs.Table.{Action, ActionLine, Table, action_for, goto_state}
use Rattle.memory.specs.Memory.{kind_of, value_of, HoldsActions}
use Rattle.table_lines.specs.Image.{image}
use Rattle.table_lines.proofs.ImageLaws.{image_read}
use Rattle.table_actions.specs.Memory.{cell_at, kind_at, value_at, goto_at}
use Rattle.table_actions.proofs.CellLaws.{cell_back, goto_back}

-- the cell of a state and a code
cell_is : {m : List ℕ} (n : ℕ) (f : Option Action → ℕ) (l : List ActionLine) → 16640 ≤ n → m ≡ image n (cell_at f l)
    → (q c : ℕ) → q < 256 → c < 64 → get_or m (q * 64 + c) 0 ≡ f (action_for l q c)
cell_is n f l room e q c h k = image_read n (cell_at f l) e (q * 64 + c) (omega (arith, h, k, room)) ∙ cell_back q c (omega (arith, h)) f l k

goto_is : {m : List ℕ} (n : ℕ) (l : List ActionLine) → 16640 ≤ n → m ≡ image n (goto_at l)
    → (q b : ℕ) → q < 256 → b < 64 → get_or m (q * 64 + b) 0 ≡ goto_state (action_for l q (64 + b))
goto_is n l room e q b h k =
    image_read n (goto_at l) e (q * 64 + b) (omega (arith, h, k, room))
    ∙ (ap (λ (c : ℕ). goto_at l (q * 64 + c)) (let z : b ≡ 64 + b - 64 = omega arith in z) ∙ goto_back q (64 + b) (omega (arith, h)) l (omega arith) (omega (arith, k)))

-- kinds of a bytes, values of b, gotos of c
pub holds_actions : (t : Table) {kinds values gotos : List ℕ} (a b c : ℕ) → 16640 ≤ a → 16640 ≤ b → 16640 ≤ c → kinds ≡ image a (kind_at t.actions)
    → values ≡ image b (value_at t.actions) → gotos ≡ image c (goto_at t.actions) → HoldsActions kinds values gotos t
holds_actions t a b c ra rb rc ek ev eg = record {
  kind_is = cell_is a kind_of t.actions ra ek;
  value_is = cell_is b value_of t.actions rb ev;
  goto_is = goto_is c t.actions rc eg;
}
