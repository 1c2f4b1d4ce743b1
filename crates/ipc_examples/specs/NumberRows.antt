-- Numbers as bytes. A definition that reverses months, days and nanoseconds as 16 bytes fails
-- `months_big`, and `ExtendLaw`.
-- (Arrow columnar format, "Byte Order (Endianness)" and "Fixed-size Primitive Layout".)
use Rattle.std.specs.Prelude.{◌≡◌, pos, negsuc, [], ◌∷◌, None, Some}
use Rattle.lower_types.specs.NumberTypes.{whole, wide, day_time, month_day_nano}
use Rattle.lower_types.specs.declared.Endianness.TheVariants.{Little, Big}
use Rattle.lower_types.specs.declared.PrimitiveType.TheVariants.{Int8, UInt8, Int32, Int128, Int256, DaysMs, MonthDayNano}
use Rattle.ipc_model.specs.Numbers.{number_at}

-- -1 and 5 in four bytes, in both orders; 255 in one; and nothing past the end.
pub record NumberRows : Type 0 where
  pub minus_one : number_at Int32 Little (0xFF ∷ 0xFF ∷ 0xFF ∷ 0xFF ∷ []) 0 ≡ Some (whole (negsuc 0))
  pub five_little : number_at Int32 Little (5 ∷ 0 ∷ 0 ∷ 0 ∷ []) 0 ≡ Some (whole (pos 5))
  pub five_big : number_at Int32 Big (0 ∷ 0 ∷ 0 ∷ 5 ∷ []) 0 ≡ Some (whole (pos 5))
  pub other_order : number_at Int32 Little (0 ∷ 0 ∷ 0 ∷ 5 ∷ []) 0 ≡ Some (whole (pos 83886080))
  pub unsigned_byte : number_at UInt8 Little (1 ∷ 0xFF ∷ []) 1 ≡ Some (whole (pos 255))
  pub signed_byte : number_at Int8 Little (1 ∷ 0xFF ∷ []) 1 ≡ Some (whole (negsuc 0))
  pub past_the_end : number_at Int32 Little (5 ∷ 0 ∷ 0 ∷ 0 ∷ []) 1 ≡ None

-- Days and milliseconds, and months, days and nanoseconds: each part has its own bytes reversed.
pub record PartRows : Type 0 where
  pub days_little : number_at DaysMs Little (5 ∷ 0 ∷ 0 ∷ 0 ∷ 0xFF ∷ 0xFF ∷ 0xFF ∷ 0xFF ∷ []) 0
      ≡ Some (day_time (pos 5) (negsuc 0))
  pub days_big : number_at DaysMs Big (0 ∷ 0 ∷ 0 ∷ 5 ∷ 0xFF ∷ 0xFF ∷ 0xFF ∷ 0xFF ∷ []) 0
      ≡ Some (day_time (pos 5) (negsuc 0))
  pub days_other_order : number_at DaysMs Big (5 ∷ 0 ∷ 0 ∷ 0 ∷ 0xFF ∷ 0xFF ∷ 0xFF ∷ 0xFF ∷ []) 0
      ≡ Some (day_time (pos 83886080) (negsuc 0))
  pub months_big : number_at MonthDayNano Big
      (0 ∷ 0 ∷ 0 ∷ 1 ∷ 0 ∷ 0 ∷ 0 ∷ 2 ∷ 0 ∷ 0 ∷ 0 ∷ 0 ∷ 0 ∷ 0 ∷ 0 ∷ 3 ∷ []) 0
      ≡ Some (month_day_nano (pos 1) (pos 2) (pos 3))
  pub months_other_order : number_at MonthDayNano Little
      (0 ∷ 0 ∷ 0 ∷ 1 ∷ 0 ∷ 0 ∷ 0 ∷ 2 ∷ 0 ∷ 0 ∷ 0 ∷ 0 ∷ 0 ∷ 0 ∷ 0 ∷ 3 ∷ []) 0
      ≡ Some (month_day_nano (pos 16777216) (pos 33554432) (pos 216172782113783808))
  pub months_cut : number_at MonthDayNano Big
      (0 ∷ 0 ∷ 0 ∷ 1 ∷ 0 ∷ 0 ∷ 0 ∷ 2 ∷ 0 ∷ 0 ∷ 0 ∷ 0 ∷ 0 ∷ 0 ∷ 0 ∷ []) 0 ≡ None

-- Numbers of 16 and of 32 bytes.
pub record WideRows : Type 0 where
  pub minus_two : number_at Int128 Little
      (0xFE ∷ 0xFF ∷ 0xFF ∷ 0xFF ∷ 0xFF ∷ 0xFF ∷ 0xFF ∷ 0xFF ∷ 0xFF ∷ 0xFF ∷ 0xFF ∷ 0xFF ∷ 0xFF ∷ 0xFF ∷ 0xFF ∷ 0xFF ∷ []) 0
      ≡ Some (whole (negsuc 1))
  pub lowest_first : number_at Int256 Big (0 ∷ 0 ∷ 0 ∷ 0 ∷ 0 ∷ 0 ∷ 0 ∷ 0 ∷ 0 ∷ 0 ∷ 0 ∷ 0 ∷ 0 ∷ 0 ∷ 0 ∷ 0 ∷ 0 ∷ 0 ∷ 0 ∷ 0 ∷ 0 ∷ 0 ∷ 0 ∷ 0 ∷ 0 ∷ 0 ∷ 0 ∷ 0 ∷ 0 ∷ 0 ∷ 1 ∷ 7 ∷ []) 0
      ≡ Some (wide (pos 0) 263)
