-- WeakTypes: W1 to W7 of UAX #9, seven maps over a sequence's types, each of which reads only the result of the one before.
use Rattle.std.specs.Prelude.{Bool, true, not, ◌&&◌, ◌||◌, List, map, if◌then◌else◌}
use Rattle.bg_types.specs.declared.class.Bidi.{Bidi}
use Rattle.bg_types.specs.declared.class.Bidi.TheVariants.{L, R, Al, En, Es, Et, An, Cs, Nsm, On}
use Rattle.bg_types.specs.Classes.{is_isolate_control}
use Rattle.bidi_weak_neutral.specs.Classes.{is, is_strong}
use Rattle.bidi_weak_neutral.specs.Context.{in_context, nearest}

-- what a mark takes from the nearest earlier type that isn't NSM
abbrev pub mark_type : Bidi → Bidi
mark_type base = if is_isolate_control base then On else base

-- W1: NSM takes the nearest earlier type that isn't NSM, or sos; ON after an initiator or PDI
abbrev pub w1 : Bidi → List Bidi → List Bidi
w1 sos = in_context (λ before c after.
    if is c Nsm then mark_type (nearest (λ x. not (is x Nsm)) sos before) else c)

-- W2: EN becomes AN if the nearest earlier strong type, or sos, is AL
abbrev pub w2 : Bidi → List Bidi → List Bidi
w2 sos = in_context (λ before c after.
    if is c En && is (nearest is_strong sos before) Al then An else c)

-- W3: AL becomes R
abbrev pub w3 : List Bidi → List Bidi
w3 = map (λ c. if is c Al then R else c)

-- the first type of a list, or ON
abbrev pub first_type : List Bidi → Bidi
first_type = nearest (λ x. true) On

-- a separator between two numbers of one type that it joins: ES two EN, CS two EN or two AN
abbrev pub is_joined : Bidi → Bidi → Bidi → Bool
is_joined b c a = is b a && ((is c Es && is b En) || (is c Cs && (is b En || is b An)))

-- W4: one ES between two EN becomes EN; one CS between two numbers of one type becomes that type
abbrev pub w4 : List Bidi → List Bidi
w4 = in_context (λ before c after.
    if is_joined (first_type before) c (first_type after) then first_type before else c)

-- the nearest type that isn't ET, or ON
abbrev pub past_terminators : List Bidi → Bidi
past_terminators = nearest (λ x. not (is x Et)) On

-- W5: ET becomes EN if nothing but ET stands between it and an EN
abbrev pub w5 : List Bidi → List Bidi
w5 = in_context (λ before c after.
    if is c Et && (is (past_terminators before) En || is (past_terminators after) En) then En else c)

-- W6: ES, ET and CS become ON
abbrev pub w6 : List Bidi → List Bidi
w6 = map (λ c. if is c Es || is c Et || is c Cs then On else c)

-- W7: EN becomes L if the nearest earlier strong type, or sos, is L
abbrev pub w7 : Bidi → List Bidi → List Bidi
w7 sos = in_context (λ before c after.
    if is c En && is (nearest is_strong sos before) L then L else c)

-- W1 to W7, one after the other
abbrev pub weak_types : Bidi → List Bidi → List Bidi
weak_types sos types = w7 sos (w6 (w5 (w4 (w3 (w2 sos (w1 sos types))))))
