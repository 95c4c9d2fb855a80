-- Amending as the exported call answers it.
use Rattle.amending.specs.Answers.{Amendment as Amended, amendment_number, front_of, recut_of, back_of}
use Rattle.thrunglow.specs.declared.amends.Amendment.{Amendment}

abbrev pub counts_of : Amended → Amendment
counts_of amendment =
    record {
      number = amendment_number amendment;
      front = front_of amendment;
      recut = recut_of amendment;
      back = back_of amendment;
    }
