-- The settings' ranges: document 01, "Signature and marks".
use Rattle.std.specs.Prelude.{◌-◌, ◌^◌, Bool, ◌&&◌, leb}
use Rattle.terms.specs.declared.Settings.{Settings}

-- k pattern bits from 1 to 31, target from 1 to 2^k - 1, minimum from 48, maximum up to 16,777,216, minimum at most maximum
unfoldable pub in_range : Settings → Bool
in_range s =
    leb 1 s.bits
    && (leb s.bits 31
    && (leb 1 s.target
    && (leb s.target (2 ^ s.bits - 1)
    && (leb 48 s.minimum
    && (leb s.maximum 16_777_216
    && leb s.minimum s.maximum)))))

-- settings with every part 0: what stands beside a refusal
abbrev pub no_settings : Settings
no_settings = record { bits = 0; target = 0; minimum = 0; maximum = 0 }
