-- The names of the values of Bidi_Class (UAX #9, table 4).
use Rattle.std.specs.Prelude.{ℕ, List, [], ◌∷◌, codes}
use Rattle.bg_types.specs.declared.class.Bidi.{Bidi}
use Rattle.bg_types.specs.declared.class.Bidi.TheVariants.{L, R, Al, En, Es, Et, An, Cs, Nsm, Bn, B, S, Ws, On, Lre, Lro, Rle, Rlo, Pdf, Lri, Rli, Fsi, Pdi}

-- the short names, which stand on data lines
abbrev pub bidi_names : List (List ℕ × Bidi)
bidi_names =
    (codes "L", L) ∷
    (codes "R", R) ∷
    (codes "AL", Al) ∷
    (codes "EN", En) ∷
    (codes "ES", Es) ∷
    (codes "ET", Et) ∷
    (codes "AN", An) ∷
    (codes "CS", Cs) ∷
    (codes "NSM", Nsm) ∷
    (codes "BN", Bn) ∷
    (codes "B", B) ∷
    (codes "S", S) ∷
    (codes "WS", Ws) ∷
    (codes "ON", On) ∷
    (codes "LRE", Lre) ∷
    (codes "LRO", Lro) ∷
    (codes "RLE", Rle) ∷
    (codes "RLO", Rlo) ∷
    (codes "PDF", Pdf) ∷
    (codes "LRI", Lri) ∷
    (codes "RLI", Rli) ∷
    (codes "FSI", Fsi) ∷
    (codes "PDI", Pdi) ∷ []

-- the long names, which `@missing` lines may use instead
abbrev pub bidi_long_names : List (List ℕ × Bidi)
bidi_long_names =
    (codes "Left_To_Right", L) ∷
    (codes "Right_To_Left", R) ∷
    (codes "Arabic_Letter", Al) ∷
    (codes "European_Number", En) ∷
    (codes "European_Separator", Es) ∷
    (codes "European_Terminator", Et) ∷
    (codes "Arabic_Number", An) ∷
    (codes "Common_Separator", Cs) ∷
    (codes "Nonspacing_Mark", Nsm) ∷
    (codes "Boundary_Neutral", Bn) ∷
    (codes "Paragraph_Separator", B) ∷
    (codes "Segment_Separator", S) ∷
    (codes "White_Space", Ws) ∷
    (codes "Other_Neutral", On) ∷
    (codes "Left_To_Right_Embedding", Lre) ∷
    (codes "Left_To_Right_Override", Lro) ∷
    (codes "Right_To_Left_Embedding", Rle) ∷
    (codes "Right_To_Left_Override", Rlo) ∷
    (codes "Pop_Directional_Format", Pdf) ∷
    (codes "Left_To_Right_Isolate", Lri) ∷
    (codes "Right_To_Left_Isolate", Rli) ∷
    (codes "First_Strong_Isolate", Fsi) ∷
    (codes "Pop_Directional_Isolate", Pdi) ∷ []
