-- Marks and cuts of a log's bytes: document 01, "Signature and marks" and "The one-pass rule".
use Rattle.std.specs.Prelude.{ℕ, ◌-◌, ◌%◌, ◌^◌, Bool, ◌&&◌, List, leb, eqb, length}
use Rattle.terms.specs.declared.Settings.{Settings}
use Rattle.rule.specs.Rule.{next, cuts}
use Rattle.signature.specs.Signatures.{signature_of, window}

-- the low bits of a signature equal the target
unfoldable pub matches : (settings : Settings) (signature : ℕ) → Bool
matches s signature = eqb (signature % 2 ^ s.bits) s.target

-- offset p of a log is a mark when 48 <= p <= n and the signature of the 48 bytes before p matches
unfoldable pub mark : Settings → List ℕ → ℕ → Bool
mark s log p = leb 48 p && (leb p (length log) && matches s (signature_of (window log (p - 48))))

-- the cut that follows the cut c
abbrev pub next_cut : Settings → List ℕ → ℕ → ℕ
next_cut s log c = next (mark s log) s.minimum s.maximum (length log) c

-- all cuts of a log
abbrev pub cut_list : Settings → List ℕ → List ℕ
cut_list s log = cuts (mark s log) s.minimum s.maximum (length log)
