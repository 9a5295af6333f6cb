mod CreditLaws
mod IdLaws
mod Numbers
mod RowLaws
mod Slots
mod StandLaws
mod WaitLaws
