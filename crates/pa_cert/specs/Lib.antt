pub mod Lists
pub mod Tables
pub mod PlaceText
pub mod AnswerText
