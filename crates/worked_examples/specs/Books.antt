-- The grammars of document 01, 'Sessions and books to try', each with the table book that is built for it, a line each as printed.
use Rattle.std.specs.Prelude.{List, [], ◌∷◌, ◌++◌, ℕ}
use Prim.Native.Char.{code}
use Prim.Native.String.{String, [] as nothing, ◌∷◌ as ◌then◌}

-- the bytes of a text
abbrev pub bytes : String → List ℕ
bytes nothing = []
bytes (c then s) = code c ∷ bytes s

-- lines, "each ended by LF"
abbrev pub book : List String → List ℕ
book [] = []
book (l ∷ ls) = bytes l ++ 10 ∷ book ls

-- a grammar book and a table book, as lines
pub record Books : Type 0 where
  pub grammar : List String
  pub tables : List String

-- "For `G,1,1,1,64`, `R,64,^,1` the build program prints [..]"
abbrev pub smallest : Books
smallest = record {
  grammar = "G,1,1,1,64" ∷ "R,64,^,1" ∷ [];
  tables =
      "T,4,2" ∷ "E,1,64" ∷ "E,2,1" ∷ "K,1,2,0,0" ∷ "K,2,3,0,0" ∷ "K,3,2,1,0" ∷ "K,4,3,1,0" ∷
      "A,1,1,1" ∷ "N,1,64,3" ∷ "S,2,1,4" ∷ "P,3,0,2" ∷ "P,4,0,2" ∷ [];
}

-- "G1 is from document 000, a=1, b=2, c=3, A=64, B=65, C=66, goal A, all R: `1 A→a B b ^ C`, `2 B→B b ^`, `3 B→^ b`, `4 C→C ^ c`,
-- `5 C→^ c`. [..] G1 has 11 states."
abbrev pub g1 : Books
g1 = record {
  grammar = "G,3,3,5,64" ∷ "R,64,1,65,2,^,66" ∷ "R,65,65,2,^" ∷ "R,65,^,2" ∷ "R,66,66,^,3" ∷ "R,66,^,3" ∷ [];
  tables =
      "T,11,4" ∷
      "E,1,64" ∷ "E,2,66" ∷ "E,3,2" ∷ "E,4,3" ∷
      "K,1,6,0,0" ∷ "K,2,7,0,0" ∷ "K,3,8,0,2" ∷ "K,4,9,0,0,3" ∷ "K,5,1,1,0" ∷ "K,6,6,1,0" ∷ "K,7,4,1,0,3" ∷
      "K,7,7,1,0" ∷ "K,8,8,1,2" ∷ "K,9,9,1,0,3" ∷ "K,10,1,2,0" ∷ "K,10,2,1,2" ∷ "K,11,1,3,0" ∷ "K,11,2,2,2" ∷
      "S,1,1,5" ∷ "N,1,64,6" ∷ "A,2,3,5" ∷ "N,2,66,7" ∷ "S,3,2,8" ∷ "S,4,3,9" ∷ "A,5,2,3" ∷ "N,5,65,10" ∷
      "P,6,0,2" ∷ "P,7,0,2" ∷ "A,7,3,4" ∷ "P,8,2,2" ∷ "P,9,0,2" ∷ "P,9,3,2" ∷ "S,10,2,11" ∷ "A,11,2,2" ∷
      "A,11,3,1" ∷ [];
}

-- "With rule 1 as `^ a / B b / C` it has 13"
abbrev pub g1_cut : Books
g1_cut = record {
  grammar = "G,3,3,5,64" ∷ "R,64,^,1,/,65,2,/,66" ∷ "R,65,65,2,^" ∷ "R,65,^,2" ∷ "R,66,66,^,3" ∷ "R,66,^,3" ∷ [];
  tables =
      "T,13,6" ∷
      "E,1,64" ∷ "E,2,1" ∷ "E,3,65,2" ∷ "E,4,66" ∷ "E,5,2" ∷ "E,6,3" ∷
      "K,1,6,0,0" ∷ "K,2,7,0,2" ∷ "K,3,8,0,3" ∷ "K,4,9,0,0" ∷ "K,5,10,0,2" ∷ "K,6,11,0,0,3" ∷ "K,7,6,1,0" ∷
      "K,8,7,1,2" ∷ "K,9,2,1,2" ∷ "K,9,8,1,3" ∷ "K,10,4,1,0,3" ∷ "K,10,9,1,0" ∷ "K,11,10,1,2" ∷ "K,12,11,1,0,3" ∷
      "K,13,2,2,2" ∷ "K,13,8,2,3" ∷
      "A,1,1,1" ∷ "N,1,64,7" ∷ "S,2,1,8" ∷ "A,3,2,3" ∷ "N,3,65,9" ∷ "A,4,3,5" ∷ "N,4,66,10" ∷ "S,5,2,11" ∷
      "S,6,3,12" ∷ "P,7,0,2" ∷ "P,8,2,2" ∷ "S,9,2,13" ∷ "P,10,0,2" ∷ "A,10,3,4" ∷ "P,11,2,2" ∷ "P,12,0,2" ∷
      "P,12,3,2" ∷ "A,13,2,2" ∷ "P,13,3,3" ∷ [];
}

-- "D is `G,4,3,5,64`, `R,64,^`, `R,64,64,^,65`, `U,65,^,66,/,2,/,3`, `R,66,1,^`, `R,66,66,4,^`; 12 states."
abbrev pub d : Books
d = record {
  grammar = "G,4,3,5,64" ∷ "R,64,^" ∷ "R,64,64,^,65" ∷ "U,65,^,66,/,2,/,3" ∷ "R,66,1,^" ∷ "R,66,66,4,^" ∷ [];
  tables =
      "T,12,5" ∷
      "E,1,64" ∷ "E,2,65" ∷ "E,3,66" ∷ "E,4,2" ∷ "E,5,3" ∷
      "K,1,6,0,0" ∷ "K,2,7,0,0,1" ∷ "K,3,8,0,2" ∷ "K,4,9,0,3" ∷ "K,5,10,0,0,1" ∷ "K,6,2,1,0,1" ∷ "K,6,6,1,0" ∷
      "K,7,7,1,0,1" ∷ "K,8,4,1,2,4" ∷ "K,9,5,1,2,4" ∷ "K,9,8,1,2" ∷ "K,10,9,1,3" ∷ "K,11,10,1,0,1" ∷
      "K,12,5,2,2,4" ∷
      "A,1,0,1" ∷ "A,1,1,1" ∷ "N,1,64,6" ∷ "A,2,1,3" ∷ "N,2,65,7" ∷ "S,3,1,8" ∷ "N,3,66,9" ∷ "S,4,2,10" ∷
      "S,5,3,11" ∷ "P,6,0,2" ∷ "A,6,1,2" ∷ "P,7,0,2" ∷ "P,7,1,2" ∷ "A,8,2,4" ∷ "A,8,4,4" ∷ "P,9,2,2" ∷
      "S,9,4,12" ∷ "P,10,3,2" ∷ "P,11,0,2" ∷ "P,11,1,2" ∷ "A,12,2,5" ∷ "A,12,4,5" ∷ [];
}
