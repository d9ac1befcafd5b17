mod Exactly
