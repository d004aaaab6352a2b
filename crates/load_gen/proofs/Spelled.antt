-- The lines of a script and the text of the generator differ only in how their pieces are grouped.
use Rattle.std.proofs.Common.{◌≡◌, ℕ, List, [], ◌++◌, append_assoc}
use Rattle.std.proofs.lemmas.List.{append-nil}

-- the pieces of a file's line and its seal
pub file_pieces : (p x q y r z c k e s : List ℕ)
    → ((p ++ (x ++ (q ++ (y ++ (r ++ ((z ++ (c ++ k)) ++ [])))))) ++ e) ++ s
    ≡ ((((((((p ++ x) ++ q) ++ y) ++ r) ++ z) ++ c) ++ k) ++ (e ++ s))
file_pieces p x q y r z c k e s = simp (append-nil, append_assoc)

-- the pieces of a line that opens a file, and of the lines after it
pub read_pieces : (p x w e rest : List ℕ)
    → ((p ++ (x ++ (w ++ []))) ++ e) ++ rest ≡ (p ++ x) ++ (w ++ (e ++ rest))
read_pieces p x w e rest = simp (append-nil, append_assoc)

-- the pieces of the lines that open, write and close a file
pub write_pieces : (p x w e q y v z c k d : List ℕ)
    → ((p ++ (x ++ (w ++ []))) ++ e)
    ++ (((q ++ (y ++ (v ++ ((z ++ (c ++ k)) ++ [])))) ++ e) ++ d)
    ≡ ((((((((p ++ x) ++ (w ++ (e ++ q))) ++ y) ++ v) ++ z) ++ c) ++ k) ++ (e ++ d))
write_pieces p x w e q y v z c k d = simp (append-nil, append_assoc)
