pub mod Pretrade
