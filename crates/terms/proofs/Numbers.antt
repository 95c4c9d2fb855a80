-- What the numbers of the table say: none is 0, which stands beside a success.
use Prim.Native.Nat.{◌<◌}
use lib.Dec.{lit<}
use Rattle.terms.specs.declared.Refusal.{Refusal}
use Rattle.terms.specs.declared.Refusal.TheVariants.{SettingsOutOfRange, LogTooLong, CarryNotInOrder, CarryClosed, RoomTooShort, RecordTooLong, NoSuchSegment, BayNotDone}
use Rattle.terms.specs.declared.Refusal.TheVariants.{BayMalformed, ListNotWellFormed, EditOutOfRange, NoSheet, CheckWordWrong, TrailerWrong, OtherLabel, TooManyCuts, ListFull}
use Rattle.terms.specs.Refusals.{number_of}

pub some_number : (why : Refusal) → 0 < number_of why
some_number SettingsOutOfRange = lit< tt
some_number LogTooLong = lit< tt
some_number CarryNotInOrder = lit< tt
some_number CarryClosed = lit< tt
some_number RoomTooShort = lit< tt
some_number RecordTooLong = lit< tt
some_number NoSuchSegment = lit< tt
some_number BayNotDone = lit< tt
some_number BayMalformed = lit< tt
some_number ListNotWellFormed = lit< tt
some_number EditOutOfRange = lit< tt
some_number NoSheet = lit< tt
some_number CheckWordWrong = lit< tt
some_number TrailerWrong = lit< tt
some_number OtherLabel = lit< tt
some_number TooManyCuts = lit< tt
some_number ListFull = lit< tt
