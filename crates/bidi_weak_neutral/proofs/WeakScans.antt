-- The weak rules as scans.
use Rattle.std.proofs.Common.{◌≡◌, refl, List, []}
use Rattle.std.specs.Prelude.{not}
use Rattle.bg_types.specs.declared.class.Bidi.{Bidi}
use Rattle.bg_types.specs.declared.class.Bidi.TheVariants.{Al, En, An, Nsm, On}
use Rattle.std.specs.Prelude.{◌&&◌, if◌then◌else◌}
use Rattle.bidi_weak_neutral.specs.Classes.{is, is_strong}
use Rattle.bidi_weak_neutral.specs.Context.{nearest}
use Rattle.bidi_weak_neutral.specs.Weak.{first_type, past_terminators, w1, w2, w4, w5, w7}
use Rattle.bidi_weak_neutral.specs.Pass.{marked, unmarked, strong_behind, joined, terminated, unterminated, settled}
use Rattle.bidi_weak_neutral.proofs.Scan.{scan, in_context_from-scan}

-- a rule's new type, by what the scan keeps, the type and those after it
abbrev pub w1_at : Bidi → Bidi → List Bidi → Bidi
w1_at base c after = marked base c

pub w1-is : (sos : Bidi) (types : List Bidi) → w1 sos types ≡ scan w1_at unmarked sos types
w1-is sos types = in_context_from-scan _ (nearest (λ x. not (is x Nsm)) sos) w1_at unmarked (λ b x a. refl) (λ b x. refl) [] types

abbrev pub w2_at : Bidi → Bidi → List Bidi → Bidi
w2_at strong c after = if is c En && is strong Al then An else c

pub w2-is : (sos : Bidi) (types : List Bidi) → w2 sos types ≡ scan w2_at strong_behind sos types
w2-is sos types = in_context_from-scan _ (nearest is_strong sos) w2_at strong_behind (λ b x a. refl) (λ b x. refl) [] types

-- W4 keeps the type before
abbrev pub w4_at : Bidi → Bidi → List Bidi → Bidi
w4_at before c after = joined before c (first_type after)

abbrev pub w4_step : Bidi → Bidi → Bidi
w4_step before c = c

pub w4-is : (types : List Bidi) → w4 types ≡ scan w4_at w4_step On types
w4-is types = in_context_from-scan _ first_type w4_at w4_step (λ b x a. refl) (λ b x. refl) [] types

abbrev pub w5_at : Bidi → Bidi → List Bidi → Bidi
w5_at beside c after = terminated beside c (past_terminators after)

pub w5-is : (types : List Bidi) → w5 types ≡ scan w5_at unterminated On types
w5-is types = in_context_from-scan _ past_terminators w5_at unterminated (λ b x a. refl) (λ b x. refl) [] types

abbrev pub w7_at : Bidi → Bidi → List Bidi → Bidi
w7_at strong c after = settled strong c

pub w7-is : (sos : Bidi) (types : List Bidi) → w7 sos types ≡ scan w7_at strong_behind sos types
w7-is sos types = in_context_from-scan _ (nearest is_strong sos) w7_at strong_behind (λ b x a. refl) (λ b x. refl) [] types
