-- Prefixes of keys, worked out.
use Rattle.std.proofs.Common.{◌≡◌, refl, ◌*◌, ◌+◌, ◌^◌, [], ◌∷◌}
use Rattle.tsc_span.specs.Prefixes.{prefix_of}

-- the first byte weighs most
one_byte : prefix_of (97 ∷ []) ≡ 97 * 256 ^ 23
one_byte = refl

two_bytes : prefix_of (1 ∷ 2 ∷ []) ≡ 1 * 256 ^ 23 + 2 * 256 ^ 22
two_bytes = refl

-- a byte zero behind a key leaves its prefix as it is
same_prefix : prefix_of (97 ∷ 0 ∷ []) ≡ prefix_of (97 ∷ [])
same_prefix = refl

no_byte : prefix_of [] ≡ 0
no_byte = refl

-- the twenty-fifth byte does so too, and the twenty-fourth counts
twenty_fourth : prefix_of (0 ∷ 0 ∷ 0 ∷ 0 ∷ 0 ∷ 0 ∷ 0 ∷ 0 ∷ 0 ∷ 0 ∷ 0 ∷ 0 ∷ 0 ∷ 0 ∷ 0 ∷ 0 ∷ 0 ∷ 0 ∷
    0 ∷ 0 ∷ 0 ∷ 0 ∷ 0 ∷ 9 ∷ 8 ∷ []) ≡ 9
twenty_fourth = refl
