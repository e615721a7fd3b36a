-- Sets of Bidi classes that several rules of UAX #9 speak of.
use Rattle.std.specs.Prelude.{Bool, true, false}
use Rattle.bg_types.specs.declared.class.Bidi.{Bidi}
use Rattle.bg_types.specs.declared.class.Bidi.TheVariants.{Bn, Lre, Lro, Rle, Rlo, Pdf, Lri, Rli, Fsi, Pdi, Nsm}

-- UAX #9, X9: the classes that are removed
unfoldable pub is_removed : Bidi → Bool
is_removed Rle = true
is_removed Lre = true
is_removed Rlo = true
is_removed Lro = true
is_removed Pdf = true
is_removed Bn = true
is_removed _ = false

-- UAX #9, BD8: the isolate initiators, and what ends an isolate
unfoldable pub is_isolate_control : Bidi → Bool
is_isolate_control Lri = true
is_isolate_control Rli = true
is_isolate_control Fsi = true
is_isolate_control Pdi = true
is_isolate_control _ = false

-- UAX #9, table 4: the class of nonspacing marks
unfoldable pub is_nonspacing : Bidi → Bool
is_nonspacing Nsm = true
is_nonspacing _ = false
