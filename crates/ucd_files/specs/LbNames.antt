-- The names of the values of Line_Break (UAX #14, table 1). Only those long names that its file uses.
use Rattle.std.specs.Prelude.{ℕ, List, [], ◌∷◌, codes}
use Rattle.bg_types.specs.declared.class.Lb.{Lb}
use Rattle.bg_types.specs.declared.class.Lb.TheVariants.{Ai, Al, B2, Ba, Bb, Bk, Cb, Cj, Cl, Cm, Cp, Cr, Eb, Em, Ex, Gl, H2, H3, Hl, Hy, Id, In, Is, Jl, Jt, Jv, Lf, Nl, Ns, Nu, Op, Po, Pr, Qu, Ri, Sa, Sg, Sp, Sy, Wj, Xx, Zw, Zwj}

-- the short names, which stand on data lines
abbrev pub lb_names : List (List ℕ × Lb)
lb_names =
    (codes "AI", Ai) ∷
    (codes "AL", Al) ∷
    (codes "B2", B2) ∷
    (codes "BA", Ba) ∷
    (codes "BB", Bb) ∷
    (codes "BK", Bk) ∷
    (codes "CB", Cb) ∷
    (codes "CJ", Cj) ∷
    (codes "CL", Cl) ∷
    (codes "CM", Cm) ∷
    (codes "CP", Cp) ∷
    (codes "CR", Cr) ∷
    (codes "EB", Eb) ∷
    (codes "EM", Em) ∷
    (codes "EX", Ex) ∷
    (codes "GL", Gl) ∷
    (codes "H2", H2) ∷
    (codes "H3", H3) ∷
    (codes "HL", Hl) ∷
    (codes "HY", Hy) ∷
    (codes "ID", Id) ∷
    (codes "IN", In) ∷
    (codes "IS", Is) ∷
    (codes "JL", Jl) ∷
    (codes "JT", Jt) ∷
    (codes "JV", Jv) ∷
    (codes "LF", Lf) ∷
    (codes "NL", Nl) ∷
    (codes "NS", Ns) ∷
    (codes "NU", Nu) ∷
    (codes "OP", Op) ∷
    (codes "PO", Po) ∷
    (codes "PR", Pr) ∷
    (codes "QU", Qu) ∷
    (codes "RI", Ri) ∷
    (codes "SA", Sa) ∷
    (codes "SG", Sg) ∷
    (codes "SP", Sp) ∷
    (codes "SY", Sy) ∷
    (codes "WJ", Wj) ∷
    (codes "XX", Xx) ∷
    (codes "ZW", Zw) ∷
    (codes "ZWJ", Zwj) ∷ []

-- the long names, which `@missing` lines may use instead
abbrev pub lb_long_names : List (List ℕ × Lb)
lb_long_names =
    (codes "Ideographic", Id) ∷
    (codes "Prefix_Numeric", Pr) ∷
    (codes "Unknown", Xx) ∷ []
