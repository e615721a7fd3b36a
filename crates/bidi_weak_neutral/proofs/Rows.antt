-- The standard's own examples of each rule, computed.
use Rattle.std.proofs.Common.{◌≡◌, refl, [], ◌∷◌, map}
use Rattle.bg_types.specs.declared.class.Bidi.TheVariants.{L, R, Al, En, Es, Et, An, Cs, Nsm, B, S, Ws, On, Lri, Pdi}
use Rattle.bg_types.specs.Classes.{is_isolate_control}
use Rattle.bidi_weak_neutral.specs.Classes.{is_strong, is_number, is_neutral}
use Rattle.bidi_weak_neutral.specs.Weak.{w1, w2, w3, w4, w5, w6, w7, weak_types}
use Rattle.bidi_weak_neutral.specs.Neutral.{n1, n2, implicit_level}

-- W1: marks in a row, at the start, and after isolate controls
w1-row : w1 R (Nsm ∷ Al ∷ Nsm ∷ Nsm ∷ Lri ∷ Nsm ∷ Pdi ∷ Nsm ∷ Nsm ∷ Ws ∷ Nsm ∷ [])
    ≡ R ∷ Al ∷ Al ∷ Al ∷ Lri ∷ On ∷ Pdi ∷ On ∷ On ∷ Ws ∷ Ws ∷ []
unfolding is_isolate_control
w1-row = refl

-- W2: over a long reach, and up to another strong type
w2-row : w2 R (En ∷ Al ∷ En ∷ On ∷ Ws ∷ Cs ∷ En ∷ L ∷ En ∷ R ∷ On ∷ En ∷ []) ≡ En ∷ Al ∷ An ∷ On ∷ Ws ∷ Cs ∷ An ∷ L ∷ En ∷ R ∷ On ∷ En ∷ []
unfolding is_strong
w2-row = refl

w3-row : w3 (Al ∷ An ∷ Al ∷ L ∷ []) ≡ R ∷ An ∷ R ∷ L ∷ []
w3-row = refl

-- W4: one separator between two numbers of one type
w4-row-1 : w4 (En ∷ Es ∷ En ∷ Cs ∷ En ∷ On ∷ An ∷ Cs ∷ An ∷ Es ∷ An ∷ []) ≡ En ∷ En ∷ En ∷ En ∷ En ∷ On ∷ An ∷ An ∷ An ∷ Es ∷ An ∷ []
w4-row-1 = refl

-- W4: not two in a row, between numbers of two types, or at an end
w4-row-2 : w4 (Cs ∷ En ∷ Cs ∷ Cs ∷ En ∷ Cs ∷ An ∷ Cs ∷ En ∷ Es ∷ []) ≡ Cs ∷ En ∷ Cs ∷ Cs ∷ En ∷ Cs ∷ An ∷ Cs ∷ En ∷ Es ∷ []
w4-row-2 = refl

-- W5: a run on either side of EN
w5-row : w5 (Et ∷ Et ∷ En ∷ Et ∷ Et ∷ An ∷ Et ∷ En ∷ On ∷ Et ∷ An ∷ Et ∷ []) ≡ En ∷ En ∷ En ∷ En ∷ En ∷ An ∷ En ∷ En ∷ On ∷ Et ∷ An ∷ Et ∷ []
w5-row = refl

w6-row : w6 (An ∷ Et ∷ L ∷ Es ∷ En ∷ Cs ∷ An ∷ []) ≡ An ∷ On ∷ L ∷ On ∷ En ∷ On ∷ An ∷ []
w6-row = refl

-- W7: over a long reach, and from the start
w7-row : w7 L (En ∷ On ∷ R ∷ En ∷ L ∷ On ∷ Ws ∷ An ∷ En ∷ R ∷ On ∷ En ∷ []) ≡ L ∷ On ∷ R ∷ En ∷ L ∷ On ∷ Ws ∷ An ∷ L ∷ R ∷ On ∷ En ∷ []
unfolding is_strong
w7-row = refl

-- the order of the rules: a mark on a sign of currency, a percent sign after Arabic digits, a comma in a price
weak-row : weak_types R (Al ∷ En ∷ Cs ∷ En ∷ Et ∷ Nsm ∷ L ∷ Et ∷ En ∷ Cs ∷ Nsm ∷ En ∷ [])
    ≡ R ∷ An ∷ An ∷ An ∷ On ∷ On ∷ L ∷ L ∷ L ∷ On ∷ On ∷ L ∷ []
unfolding is_strong is_isolate_control
weak-row = refl

-- N1: numbers count as R, on either side or both
n1-row-1 : n1 L R (On ∷ L ∷ Ws ∷ On ∷ L ∷ On ∷ R ∷ On ∷ R ∷ On ∷ An ∷ On ∷ En ∷ On ∷ []) ≡ L ∷ L ∷ L ∷ L ∷ L ∷ On ∷ R ∷ R ∷ R ∷ R ∷ An ∷ R ∷ En ∷ R ∷ []
unfolding is_neutral is_number
n1-row-1 = refl

-- N1 and N2 at both ends
ends-row : n2 1 (n1 L L (Ws ∷ R ∷ B ∷ [])) ≡ R ∷ R ∷ R ∷ []
unfolding is_neutral is_number
ends-row = refl

-- N2: each neutral that is left, isolate controls too
n2-row : n2 0 (R ∷ On ∷ L ∷ Ws ∷ Lri ∷ Pdi ∷ S ∷ B ∷ En ∷ []) ≡ R ∷ L ∷ L ∷ L ∷ L ∷ L ∷ L ∷ L ∷ En ∷ []
unfolding is_neutral
n2-row = refl

-- I1 and I2
i1-row : map (implicit_level 0) (L ∷ R ∷ An ∷ En ∷ []) ≡ 0 ∷ 1 ∷ 2 ∷ 2 ∷ []
unfolding is_number
i1-row = refl

i2-row : map (implicit_level 125) (L ∷ R ∷ An ∷ En ∷ []) ≡ 126 ∷ 125 ∷ 126 ∷ 126 ∷ []
unfolding is_number
i2-row = refl
