-- The number of each refusal: document 01, "Numbers answered".
use Rattle.std.specs.Prelude.{ℕ}
use Rattle.terms.specs.declared.Refusal.{Refusal}
use Rattle.terms.specs.declared.Refusal.TheVariants.{SettingsOutOfRange, LogTooLong, CarryNotInOrder, CarryClosed, RoomTooShort, RecordTooLong, NoSuchSegment, BayNotDone, BayMalformed, ListNotWellFormed, EditOutOfRange, NoSheet, CheckWordWrong, TrailerWrong, OtherLabel, TooManyCuts, ListFull}

abbrev pub number_of : Refusal → ℕ
number_of SettingsOutOfRange = 1
number_of LogTooLong = 2
number_of CarryNotInOrder = 3
number_of CarryClosed = 4
number_of RoomTooShort = 5
number_of RecordTooLong = 6
number_of NoSuchSegment = 7
number_of BayNotDone = 8
number_of BayMalformed = 9
number_of ListNotWellFormed = 10
number_of EditOutOfRange = 11
number_of NoSheet = 12
number_of CheckWordWrong = 13
number_of TrailerWrong = 14
number_of OtherLabel = 15
number_of TooManyCuts = 16
number_of ListFull = 17
